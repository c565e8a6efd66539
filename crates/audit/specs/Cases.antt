-- Document 01's corner of the audit, on the order and on the ring, as one table that antt computes. Assumes nothing.
use Rattle.std.specs.Prelude.{ℕ, zero, suc, Bool, true, false, not, ◌&&◌, List, [], ◌∷◌, ◌++◌, eqb, T}
use Rattle.audit.specs.Audit.{Tested, check_and_record, order_of, ring_sound, new_audit, place, ring_next, ring_refusal, RingLeft, ring_step}

abbrev every : List Bool → Bool
every [] = true
every (b ∷ bs) = b && every bs

abbrev same : List ℕ → List ℕ → Bool
same [] [] = true
same [] (b ∷ bs) = false
same (a ∷ l) [] = false
same (a ∷ l) (b ∷ m) = eqb a b && same l m

abbrev agree : Bool → Bool → Bool
agree true b = b
agree false b = not b

-- from, from + 1, ..: so many
abbrev up_from : ℕ → ℕ → List ℕ
up_from from zero = []
up_from from (suc count) = from ∷ up_from (suc from) count

-- numbers that are checked and recorded, one after another
abbrev checks : List ℕ → List ℕ → List ℕ
checks [] order = order
checks (q ∷ qs) order = checks qs (check_and_record q order).order

-- whether a test says this of a duplicate, and leaves this order
abbrev tests : Bool → List ℕ → Tested → Bool
tests d order t = agree d t.duplicate && same t.order order

-- whether a ring's step has these numbers in its result, and leaves these words
abbrev leaves : ℕ → ℕ → ℕ → Bool → List ℕ → RingLeft → Bool
leaves n start count d words l =
    let r = l.checked in
    same (r.refusal ∷ r.audit.start ∷ r.audit.count ∷ []) (n ∷ start ∷ count ∷ []) && (agree d r.duplicate && same l.words words)

-- 0 to 1,023; then 1,024 is new and evicts 0, 1,024 again changes nothing, and 0 is new and evicts 1
abbrev order_cases : List Bool
order_cases =
    let full = checks (up_from 0 1024) [] in
    let first = check_and_record 1024 full in
    let again = check_and_record 1024 first.order in
    let back = check_and_record 0 again.order in
    same full (up_from 0 1024)
    ∷ tests false (up_from 1 1024) first
    ∷ tests true (up_from 1 1024) again
    ∷ tests false (up_from 2 1023 ++ 0 ∷ []) back
    ∷ []

-- the same on a ring of 1,025 words, of which the last is never touched; and the last place, after which the oldest stands at 0
abbrev ring_cases : List Bool
ring_cases =
    let first = ring_step 1024 (record { start = 0; count = 1024 }) (up_from 0 1025) in
    let again = ring_step 1024 first.checked.audit first.words in
    let back = ring_step 0 again.checked.audit again.words in
    leaves 0 0 1 false (7 ∷ up_from 1 1024) (ring_step 7 new_audit (up_from 0 1025))
    ∷ leaves 0 1 1024 false (1024 ∷ up_from 1 1024) first
    ∷ leaves 0 1 1024 true (1024 ∷ up_from 1 1024) again
    ∷ leaves 0 2 1024 false (1024 ∷ 0 ∷ up_from 2 1023) back
    ∷ same (order_of back.checked.audit back.words) (up_from 2 1023 ++ 0 ∷ [])
    ∷ leaves 0 0 1024 false (up_from 0 1023 ++ 1024 ∷ []) (ring_step 1024 (record { start = 1023; count = 1024 }) (up_from 0 1024))
    ∷ []

-- a window of 1,023 words gets 1, whatever the ring; a ring out of range gets 2
abbrev refusal_cases : List Bool
refusal_cases =
    leaves 1 0 0 false (up_from 0 1023) (ring_step 0 new_audit (up_from 0 1023))
    ∷ leaves 1 5 1025 false (up_from 0 1023) (ring_step 0 (record { start = 5; count = 1025 }) (up_from 0 1023))
    ∷ leaves 2 0 1025 false (up_from 0 1024) (ring_step 0 (record { start = 0; count = 1025 }) (up_from 0 1024))
    ∷ leaves 2 1024 1024 false (up_from 0 1024) (ring_step 0 (record { start = 1024; count = 1024 }) (up_from 0 1024))
    ∷ leaves 2 1 1023 false (up_from 0 1024) (ring_step 0 (record { start = 1; count = 1023 }) (up_from 0 1024))
    ∷ []

cases : List Bool
cases = order_cases ++ (ring_cases ++ refusal_cases)

all_right : T (every cases)
unfolding cases check_and_record ring_step ring_refusal order_of ring_sound place ring_next
all_right = tt
