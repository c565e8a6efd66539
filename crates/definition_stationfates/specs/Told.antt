-- Where the dead letters of a call went, for a report (document 02 §7 with §1): one row for each, and what is claimed of the rows. Assumes nothing.
use Rattle.std.specs.Prelude.{ℕ, zero, suc, ◌+◌, ◌-◌, ◌≤◌, ◌<◌, ◌^◌, ◌≡◌, Bool, true, not, ◌&&◌, ◌||◌, List, [], ◌∷◌, ◌++◌, map, ltb, eqb, ℤ, length, get_or, drop}
use Rattle.std.proofs.Math.Option.{Option, none, some}
use Rattle.definition.specs.Base.{whether◌then◌else◌, keep, tally, all, up_from}
use Rattle.definition.specs.Types.{queue, Entry}
use Rattle.definition.specs.Calls.{seqs, Call, enqueuing, brought, call}
use Rattle.definition.specs.Words.{at}
use Rattle.fates.specs.Fates.{dead_lettered, Departure}
use Rattle.fates.specs.Account.{left_as}
use Rattle.definition_station.specs.Types.{StationSlot, Station, slot_of, numbers_end, StationEvent, with_seq}
use Rattle.definition_station.specs.Letters.{lasting, rejected, clock_of, whole, storing, hops_max}
use Rattle.definition_station.specs.Station.{StationLengths, StationResult, station_step}
use Rattle.definition_station.specs.Claims.{letters_in}
use Rattle.definition_stationfates.specs.Books.{call_said, call_letters, call_gets, calls_got, Book, book_after}

-- ---- where a letter goes

-- no destination: the letter is lost
abbrev pub lost_place : ℕ
lost_place = 8

-- the destination that stores a letter, as `storing` goes: hops left, clock, the name, the letter
unfoldable pub place_stored : (ℕ → ℕ) → ℕ → ℕ → Entry → Option StationSlot → ℕ
place_stored on now k e none = lost_place
place_stored on now k e (some x) = whether eqb (call whole (enqueuing e now) x.dest).refusal 0 then k else on x.name

unfoldable pub letter_place : ℕ → ℕ → ℕ → Entry → Station → ℕ
letter_place zero now k e s = lost_place
letter_place (suc hops) now k e s = place_stored (λ j. letter_place hops now j e s) now k e (slot_of k s)

-- some of them, one after another, as `running` goes
unfoldable pub letter_places : ℕ → ℕ → ℕ → List Entry → Station → List ℕ
letter_places hops now k [] s = []
letter_places hops now k (e ∷ es) s = letter_place hops now k e s ∷ letter_places hops now k es (storing hops now k e s).station

-- ---- the rows

-- a dead letter: the entry as it was rejected, the number that it got (0: none was left), and the destination where it is stored (8: it is lost)
pub record ToldLetter : Type 0 where
  pub letter : Entry
  pub got : ℕ
  pub place : ℕ

-- in numbers: the number that it had, the one that it got, the destination
abbrev pub told_row : ToldLetter → List ℕ
told_row r = r.letter.seq ∷ r.got ∷ r.place ∷ []

-- the letters with the numbers and the destinations that they got; past the end of these a letter has none, and is lost
abbrev pub tell_each : List Entry → List ℕ → List ℕ → List ToldLetter
tell_each [] numbers places = []
tell_each (e ∷ es) numbers places = record { letter = e; got = at 0 numbers; place = get_or places 0 lost_place } ∷ tell_each es (drop 1 numbers) (drop 1 places)

unfoldable pub told_at : ℕ → ℕ → List ℕ → Station → Option StationSlot → List ToldLetter
told_at k code ws s none = []
told_at k code ws s (some x) =
    let c = call_said code ws s in
    let n = call_letters k code ws s x in
    tell_each (rejected x.dest c) (seqs n.letters) (letter_places hops_max (clock_of c) x.name n.letters n.station)

-- those of an accepted call on the destination k
abbrev pub told_letters : ℕ → ℕ → List ℕ → Station → List ToldLetter
told_letters k code ws s = told_at k code ws s (slot_of k s)

-- ---- what is claimed

-- what the `x` events of a station call say, each with its destination: number and redelivery
abbrev pub letters_on : List StationEvent → List (ℕ × (ℕ × ℤ))
letters_on [] = []
letters_on (e ∷ es) = map (λ x. (e.place, x)) (letters_in (e.event ∷ [])) ++ letters_on es

-- the number that is given where n is the next: 0 where none is left
abbrev pub given_number : ℕ → ℕ
given_number n = whether ltb n numbers_end then n else 0

abbrev pub has_number : ToldLetter → Bool
has_number t = not (eqb t.got 0)

abbrev pub is_at : ℕ → ToldLetter → Bool
is_at j t = eqb t.place j

-- one of the eight destinations and a number, or lost
abbrev pub right_row : ToldLetter → Bool
right_row t = ltb t.place 8 && has_number t || is_at lost_place t

-- a lost count: it stops at 2^63 - 1
abbrev pub lost_up_to : ℕ → ℕ
lost_up_to n = whether ltb n (2 ^ 63) then n else 2 ^ 63 - 1

-- the letter with the number that it got
abbrev pub stored_as : ToldLetter → Entry
stored_as t = with_seq t.got t.letter

abbrev pub own_calls : Option Call → List Call
own_calls none = []
own_calls (some c) = c ∷ []

abbrev pub brought_by : Option Call → List Entry
brought_by none = []
brought_by (some c) = brought c

-- number and redelivery, as an `x` says them
abbrev pub shown_letter : Entry → ℕ × ℤ
shown_letter e = (e.seq, e.redelivery)

-- the persistent entries of a book that left as dead-lettered
abbrev pub dead_in : List Departure → List (ℕ × ℤ)
dead_in l = map shown_letter (lasting (left_as dead_lettered l))

-- the rows of an accepted call on the destination k with the result r
pub record ToldRight (k code : ℕ) (ws : List ℕ) (s : Station) (r : StationResult) (rows : List ToldLetter) : Type 0 where
  -- they are the `x` events, all of them and in their order, and those name k
  pub letters : letters_on r.events ≡ map (λ t. (k, shown_letter t.letter)) rows
  -- the numbers that they got are the next ones in order, and 0 where none is left
  pub numbers : map (λ t. t.got) rows ≡ map given_number (up_from s.next (length rows))
  -- no other is taken, but that of a direct enqueue
  pub next : r.station.next ≡ s.next + (whether eqb code 1 then 1 else 0) + tally has_number rows
  -- the lost count grows by the rows that are lost
  pub lost : r.station.lost ≡ lost_up_to (s.lost + tally (is_at lost_place) rows)
  pub places : all right_row rows ≡ true
  -- a destination gets the call itself, if it is its own, and then an enqueue for each row that names it, in order, at the call's clock; and nothing else
  pub stores : (j : ℕ) → j < 8 → calls_got j (call_gets k code ws s)
      ≡ (whether eqb k j then own_calls (call_said code ws s) else []) ++ map (λ t. enqueuing (stored_as t) (clock_of (call_said code ws s))) (keep (is_at j) rows)
  -- so its book accepts what the call itself brings there, and these letters
  pub books : (j : ℕ) (b : Book) → j < 8 → (book_after j k code ws s b).accepted
      ≡ b.accepted ++ ((whether eqb k j then brought_by (call_said code ws s) else []) ++ map stored_as (keep (is_at j) rows))
  -- and in the book of a queue the persistent entries that end as dead-lettered in the call are those of the rows, in order, if it is the call's own; else none
  pub ended : (j : ℕ) (b : Book) (x : StationSlot) → slot_of j s ≡ some x → x.dest.kind ≡ queue
      → dead_in (book_after j k code ws s b).gone ≡ dead_in b.gone ++ (whether eqb k j then map (λ t. shown_letter t.letter) rows else [])

-- of every accepted call but open, which tells none
abbrev pub LettersTold : Type 0
LettersTold =
    (lent : StationLengths) (k code : ℕ) (words : List ℕ) (s : Station)
    → 1 ≤ code
    → (station_step lent k code words s).refusal ≡ 0
    → ToldRight k code words s (station_step lent k code words s) (told_letters k code words s)

abbrev pub OpenTellsNone : Type 0
OpenTellsNone = (k : ℕ) (words : List ℕ) (s : Station) → told_letters k 0 words s ≡ []
