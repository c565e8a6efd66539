-- destination.rs, Audit: the numbers that one producer sent last, oldest first, and the ring of words that holds them. Assumes nothing.
use Rattle.std.specs.Prelude.{◌≡◌, ℕ, ◌+◌, Bool, true, false, cond, ◌||◌, List, [], ◌∷◌, ◌++◌, eqb, ltb, length, take, drop, set}
use Rattle.audit.specs.declared.Audit.{Audit}
use Rattle.audit.specs.declared.Checked.{Checked}

-- AUDIT_WINDOW
abbrev pub audit_window : ℕ
audit_window = 1024

-- `seen.contains(&seq)`: `seen` is the set of the numbers in `order`
abbrev pub seen : ℕ → List ℕ → Bool
seen q [] = false
seen q (x ∷ xs) = eqb q x || seen q xs

-- `order.push_back(seq)`, and `order.pop_front()` where there are more than the window
abbrev pub recorded : ℕ → List ℕ → List ℕ
recorded q order = let all = order ++ q ∷ [] in cond (ltb audit_window (length all)) (drop 1 all) all

-- Audit::check_and_record: whether it is a duplicate, and the order after it
pub record Tested : Type 0 where
  pub duplicate : Bool
  pub order : List ℕ

unfoldable pub check_and_record : ℕ → List ℕ → Tested
check_and_record q order =
    cond (seen q order)
    (record { duplicate = true; order = order })
    (record { duplicate = false; order = recorded q order })

-- the order that a ring holds: from its start to the window's end, and then from the window's beginning
unfoldable pub order_of : Audit → List ℕ → List ℕ
order_of a w = take a.count (drop a.start (take audit_window w) ++ take a.start w)

-- whether these are a ring's numbers: until the window is full the oldest stands at 0
unfoldable pub ring_sound : Audit → Bool
ring_sound a = cond (ltb a.count audit_window) (eqb a.start 0) (cond (eqb a.count audit_window) (ltb a.start audit_window) false)

-- the ring of a producer that has sent nothing
abbrev pub new_audit : Audit
new_audit = record { start = 0; count = 0 }

-- where a ring's next number goes: after the others, or over the oldest where the window is full
unfoldable pub place : Audit → ℕ
place a = cond (ltb a.count audit_window) a.count a.start

-- the ring with one number more, or where the window is full with the next one as the oldest
unfoldable pub ring_next : Audit → Audit
ring_next a =
    cond (ltb a.count audit_window)
    (record { start = a.start; count = a.count + 1 })
    (record { start = cond (ltb (a.start + 1) audit_window) (a.start + 1) 0; count = a.count })

-- the refusals: 1 a window that is short, 2 a ring out of range, 0 none
unfoldable pub ring_refusal : Audit → List ℕ → ℕ
ring_refusal a w = cond (ltb (length w) audit_window) 1 (cond (ring_sound a) 0 2)

-- what check_and_record leaves: its result, and the words of the window that it was lent
pub record RingLeft : Type 0 where
  pub checked : Checked
  pub words : List ℕ

abbrev pub ring_left : ℕ → Audit → Bool → List ℕ → RingLeft
ring_left n a d w = record { checked = record { refusal = n; audit = a; duplicate = d }; words = w }

-- check_and_record on the ring, result and words exactly: refused, or a duplicate, nothing changes; else one word is written
unfoldable pub ring_step : ℕ → Audit → List ℕ → RingLeft
ring_step q a w =
    cond (eqb (ring_refusal a w) 0)
    (cond (seen q (order_of a w)) (ring_left 0 a true w) (ring_left 0 (ring_next a) false (set w (place a) q)))
    (ring_left (ring_refusal a w) a false w)

-- what check_and_record promises of its result r and of the words v that it leaves, given the number, the ring and the words w.
-- `exact` says all of it; the other fields say what follows, for callers that go by the order
pub record CheckedAndRecorded (q : ℕ) (a : Audit) (w : List ℕ) (r : Checked) (v : List ℕ) : Type 0 where
  pub exact : ◌≡◌ {A = RingLeft} (record { checked = r; words = v }) (ring_step q a w)
  pub refusal : r.refusal ≡ ring_refusal a w
  pub order : ring_refusal a w ≡ 0 → ◌≡◌ {A = Tested} (record { duplicate = r.duplicate; order = order_of r.audit v }) (check_and_record q (order_of a w))
  pub ok : ring_sound r.audit ≡ ring_sound a
  pub beyond : drop audit_window v ≡ drop audit_window w
  pub long : length v ≡ length w
