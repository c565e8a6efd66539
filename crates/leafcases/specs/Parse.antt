-- How a line of the list is read: bytes, digits, numbers and names. Assumes nothing.
use Rattle.std.specs.Prelude.{ℕ, suc, ◌+◌, ◌*◌, ◌-◌, ◌^◌, Bool, true, false, ◌&&◌, ◌||◌, List, [], ◌∷◌, eqb, leb, ltb, length, take, drop, set, ℤ, pos, neg_ℤ, Option, Some, None, option_and_then}
use Rattle.words.specs.Pick.{whether◌then◌else◌}
use Rattle.words.specs.Words.{unsigned}
use Rattle.leafcases.specs.declared.parse.Values.{Values}
use Rattle.leafcases.specs.declared.parse.Line.{Line}
use Rattle.leafcases.specs.declared.parse.Kind.{Kind}
use Rattle.leafcases.specs.declared.parse.Kind.TheVariants as K

-- a number and one more digit: bad where the byte is none, or ten times the number is past 2 ^ 63
unfoldable pub next_digit : ℕ → ℕ → Option ℕ
next_digit v b =
    whether ltb b 48 || ltb 57 b || ltb 922337203685477580 v then None
    else Some (v * 10 + (b - 48))

-- a number and the digits after it
unfoldable pub spelled_after : ℕ → List ℕ → Option ℕ
spelled_after v [] = Some v
spelled_after v (b ∷ bs) = option_and_then (λ w. spelled_after w bs) (next_digit v b)

-- one digit or more
unfoldable pub digits_of : List ℕ → Option ℕ
digits_of [] = None
digits_of (b ∷ bs) = spelled_after 0 (b ∷ bs)

-- as an i64, with no sign before it
unfoldable pub positive : ℕ → Option ℤ
positive v = whether ltb v (2 ^ 63) then Some (pos v) else None

-- and after a minus
unfoldable pub negative : ℕ → Option ℤ
negative v = whether leb v (2 ^ 63) then Some (neg_ℤ (pos v)) else None

-- the i64 that a text spells
unfoldable pub spelled : List ℕ → Option ℤ
spelled [] = None
spelled (b ∷ bs) =
    whether eqb b 45 then option_and_then negative (digits_of bs)
    else option_and_then positive (digits_of (b ∷ bs))

-- how many bytes stand before a space or the end
unfoldable pub word_length : List ℕ → ℕ
word_length [] = 0
word_length (b ∷ bs) = whether eqb b 32 then 0 else suc (word_length bs)

unfoldable pub same_bytes : List ℕ → List ℕ → Bool
same_bytes [] [] = true
same_bytes [] (b ∷ bs) = false
same_bytes (a ∷ l) [] = false
same_bytes (a ∷ l) (b ∷ m) = eqb a b && same_bytes l m

-- expired, redelivered, admit_memory, apply_expiry_options, audit_new, audit
unfoldable pub kind_named : List ℕ → Kind
kind_named name =
    whether same_bytes name (101 ∷ 120 ∷ 112 ∷ 105 ∷ 114 ∷ 101 ∷ 100 ∷ []) then K.Expired
    else whether same_bytes name (114 ∷ 101 ∷ 100 ∷ 101 ∷ 108 ∷ 105 ∷ 118 ∷ 101 ∷ 114 ∷ 101 ∷ 100 ∷ []) then K.Redelivered
    else whether same_bytes name (97 ∷ 100 ∷ 109 ∷ 105 ∷ 116 ∷ 95 ∷ 109 ∷ 101 ∷ 109 ∷ 111 ∷ 114 ∷ 121 ∷ []) then K.AdmitMemory
    else whether same_bytes name (97 ∷ 112 ∷ 112 ∷ 108 ∷ 121 ∷ 95 ∷ 101 ∷ 120 ∷ 112 ∷ 105 ∷ 114 ∷ 121 ∷ 95 ∷ 111 ∷ 112 ∷ 116 ∷ 105 ∷ 111 ∷ 110 ∷ 115 ∷ []) then K.ApplyExpiryOptions
    else whether same_bytes name (97 ∷ 117 ∷ 100 ∷ 105 ∷ 116 ∷ 95 ∷ 110 ∷ 101 ∷ 119 ∷ []) then K.AuditNew
    else whether same_bytes name (97 ∷ 117 ∷ 100 ∷ 105 ∷ 116 ∷ []) then K.Audit
    else K.Bad

-- how many numbers a line of this kind has
abbrev pub numbers_wanted : Kind → ℕ
numbers_wanted K.Expired = 3
numbers_wanted K.Redelivered = 2
numbers_wanted K.AdmitMemory = 6
numbers_wanted K.ApplyExpiryOptions = 9
numbers_wanted K.AuditNew = 0
numbers_wanted K.Audit = 2
numbers_wanted K.Bad = 0

-- ---- a line

abbrev pub zeros : List ℕ
zeros = 0 ∷ 0 ∷ 0 ∷ 0 ∷ 0 ∷ 0 ∷ 0 ∷ 0 ∷ 0 ∷ []

-- the numbers of these words, each as the word of 64 bits that holds it, put after the n that are there; nine at most
unfoldable pub values_of : List (List ℕ) → List ℕ → ℕ → Option Values
values_of [] values n = Some (record { values = values; count = n })
values_of (w ∷ ws) values n = option_and_then (λ x. whether leb 9 n then None else values_of ws (set values n (unsigned x)) (n + 1)) (spelled w)

abbrev pub on_head : ℕ → List (List ℕ) → List (List ℕ)
on_head b [] = (b ∷ []) ∷ []
on_head b (w ∷ ws) = (b ∷ w) ∷ ws

-- what stands between the spaces
unfoldable pub split : List ℕ → List (List ℕ)
split [] = [] ∷ []
split (b ∷ bs) = whether eqb b 32 then [] ∷ split bs else on_head b (split bs)

-- the words after the space at n, if there is one
unfoldable pub words_after : ℕ → List ℕ → List (List ℕ)
words_after n s = whether ltb n (length s) then split (drop (n + 1) s) else []

-- the kind, if the numbers are as many as it wants
unfoldable pub kind_with : Kind → ℕ → Kind
kind_with kind count = whether eqb count (numbers_wanted kind) then kind else K.Bad

abbrev pub wrong_line : Line
wrong_line = record { values = zeros; kind = K.Bad }

abbrev pub line_with : Kind → Option Values → Line
line_with kind (Some v) = record { values = v.values; kind = kind_with kind v.count }
line_with kind None = wrong_line

abbrev pub line_of_words : List (List ℕ) → Line
line_of_words [] = wrong_line
line_of_words (name ∷ ws) = line_with (kind_named name) (values_of ws zeros 0)

-- a name and its numbers
unfoldable pub parsed_line : List ℕ → Line
parsed_line s = line_of_words (split s)

-- the line in the first n bytes; bad where it was cut
unfoldable pub line_in : List ℕ → ℕ → Bool → Line
line_in buffer n cut =
    whether cut || ltb (length buffer) n then wrong_line
    else parsed_line (take n buffer)
