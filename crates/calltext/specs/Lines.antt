-- A line of text as a call: a destination, a name and its numbers. Assumes nothing.
use Rattle.std.specs.Prelude.{Option, Some, None, Result, Ok, Err, ℕ, ◌+◌, ◌*◌, ◌^◌, Bool, List, [], ◌∷◌, eqb, leb, ltb, get_or, drop, set, replicate}
use Rattle.words.specs.Pick.{whether◌then◌else◌}
use Rattle.calls.specs.declared.Call.{Call}
use Rattle.calls.specs.Calls.{new_call}
use Rattle.textwords.specs.Text.{words_of, plain}
use Rattle.textwords.specs.Numbers.{number_of}
use Rattle.calltext.specs.declared.Fault.{Fault}
use Rattle.calltext.specs.declared.Fault.TheVariants.{UnknownCall, NotANumber, TooManyArguments, NotADestination, NoName}
use Rattle.calltext.specs.Names.{RAW, name_place}

-- what a line can be: a call, nothing, or at fault: of an unknown name, with what is no number of 64 bits, with more than eight words, with what is no
-- destination's number, with no call's name after one
abbrev pub Parsed : Type 0
Parsed = Result (Option Call) Fault

-- the code and the eight words of nine numbers
abbrev pub call_of : List ℕ → Call
call_of nine =
    new_call (get_or nine 0 0)
    (get_or nine 1 0
    ∷ get_or nine 2 0
    ∷ get_or nine 3 0
    ∷ get_or nine 4 0
    ∷ get_or nine 5 0
    ∷ get_or nine 6 0
    ∷ get_or nine 7 0
    ∷ get_or nine 8 0
    ∷ [])

-- what is done with a number
abbrev pub call_number : Option ℕ → (ℕ → Parsed) → Parsed
call_number None f = Err NotANumber
call_number (Some v) f = f v

-- the words of a line go to the places from n on; those that are missing stay 0
unfoldable pub gather_call : ℕ → List ℕ → List (List ℕ) → Parsed
gather_call n nine [] = Ok (Some (call_of nine))
gather_call n nine (w ∷ ws) = whether eqb n 9 then Err TooManyArguments else call_number (number_of w) (λ v. gather_call (n + 1) (set nine n v) ws)

-- a word that begins with `@` stands for a destination
abbrev pub at_sign : List ℕ → Bool
at_sign w = eqb (get_or w 0 0) 64

-- whose number leaves room for the code
unfoldable pub small_number : Option ℕ → Option ℕ
small_number None = None
small_number (Some v) = whether ltb v (2 ^ 56) then Some v else None

unfoldable pub destination_of : List ℕ → Option ℕ
destination_of w = small_number (number_of (drop 1 w))

-- a name gives the code of a call for destination d; `raw` leaves word 0 to the first number
unfoldable pub named_call : ℕ → ℕ → List (List ℕ) → Parsed
named_call d place ws =
    whether leb place 16 then gather_call 1 (set (replicate 9 0) 0 (place + 256 * d)) ws else whether eqb place RAW then gather_call 0 (replicate 9 0) ws else Err UnknownCall

-- so a destination's number stands before a call's name, and not before `raw`
unfoldable pub call_for : ℕ → List (List ℕ) → Parsed
call_for d [] = Err NoName
call_for d (w ∷ ws) = whether eqb (name_place w) RAW then Err NoName else named_call d (name_place w) ws

abbrev pub call_after : Option ℕ → List (List ℕ) → Parsed
call_after None ws = Err NotADestination
call_after (Some d) ws = call_for d ws

unfoldable pub call_in : List (List ℕ) → Parsed
call_in [] = Ok None
call_in (w ∷ ws) = whether at_sign w then call_after (destination_of w) ws else named_call 0 (name_place w) ws

unfoldable pub line_call : List ℕ → Parsed
line_call line = call_in (words_of (plain line))
