-- What a search's answer says of the rows.
-- Assumes nothing.
use Rattle.std.specs.Prelude.{Option, Some, None}
use mathlib.Core.Path.{◌≡◌, refl, sym, ap, ◌∙◌}
use mathlib.Core.Bool.{Bool, true, false}
use mathlib.Core.List.{List, [], ◌∷◌}
use Prim.Native.Nat.{ℕ, suc, ◌+◌, ◌-◌, ◌≤◌, ◌<◌}
use native.Mathlib.Omega.{arith}
use borrow.Author.Tests.{eqb-true}
use lib.Dec.{eqb, leb}
use lib.ListN.{length, get_or}
use lib.Seq.{slice, length-slice, get_or-take, get_or-drop}
use Rattle.definition.specs.Layout.{Row}
use Rattle.words.proofs.Tests.{by-test}
use Rattle.definition.specs.Base.{whether◌then◌else◌}
use Rattle.table.specs.Table.{find_from, find_seq, place_from, place_of}
use Rattle.table.proofs.Lists.{guarded}

-- the row that was found has that number
pub find-from-at : (i seq j : ℕ) (s : List Row) → find_from i seq s ≡ Some j → (i ≤ j) × (j < i + length s) × (get_or (get_or s (j - i) []) 0 0 ≡ seq)
unfolding find_from
find-from-at i seq j [] e = absurd (let z : ◌≡◌ {A = ℕ} 0 1 = cc in omega arith)
find-from-at i seq j (r ∷ s) e = go (eqb (get_or r 0 0) seq) (eqb-true (get_or r 0 0) seq) (find-from-at (suc i) seq j s) e
  where
    go : (b : Bool) → (b ≡ true → get_or r 0 0 ≡ seq) → (find_from (suc i) seq s ≡ Some j → (suc i ≤ j) × (j < suc i + length s) × (get_or (get_or s (j - suc i) []) 0 0 ≡ seq))
        → (whether b then Some i else find_from (suc i) seq s) ≡ Some j → (i ≤ j) × (j < i + suc (length s)) × (get_or (get_or (r ∷ s) (j - i) []) 0 0 ≡ seq)
    go true h ih q =
        let u : i ≡ j = cc in
        let v : j - i ≡ 0 = omega arith in
        (omega arith, omega arith, rw v (h refl))
    go false h ih q =
        let t = ih q in
        let v : j - i ≡ suc (j - suc i) = omega arith in
        (omega arith, omega arith, rw v t.2)

-- the place lies in the segment or at its end
pub place-from-within : (i seq : ℕ) (s : List Row) → (i ≤ place_from i seq s) × (place_from i seq s ≤ i + length s)
unfolding place_from
place-from-within i seq [] = (omega arith, omega arith)
place-from-within i seq (r ∷ s) =
    let t = place-from-within (suc i) seq s in
    by-test (leb seq (get_or r 0 0)) (λ e. rw e (omega arith, omega arith)) (λ e. rw e (omega arith, omega arith))

-- the same in the table

in-slice : (from to k : ℕ) (rs : List Row) → from + k < to → get_or (slice from to rs) k [] ≡ get_or rs (from + k) []
in-slice from to k rs h = get_or-drop from _ k [] ∙ get_or-take to rs (from + k) [] h

pub find_at : (from to seq j : ℕ) (rs : List Row) → find_seq from to seq rs ≡ Some j → (from ≤ j) × (j < to) × (to ≤ length rs) × (get_or (get_or rs j []) 0 0 ≡ seq)
unfolding find_seq
find_at from to seq j rs =
    guarded (λ (f : Option ℕ). f ≡ Some j → (from ≤ j) × (j < to) × (to ≤ length rs) × (get_or (get_or rs j []) 0 0 ≡ seq)) from to to (length rs) (find_from from seq (slice from to rs)) None
    (λ h b e.
    let t = find-from-at from seq j (slice from to rs) e in
    let l : j < to = omega (arith, length-slice from to rs b) in
    let u : from + (j - from) ≡ j = omega arith in
    (t.0, l, b, ap (λ (r : Row). get_or r 0 0) (sym (in-slice from to (j - from) rs (omega arith) ∙ ap (λ (n : ℕ). get_or rs n []) u)) ∙ t.2))
    (λ e. absurd (let z : ◌≡◌ {A = ℕ} 0 1 = cc in omega arith))

pub place-within : (from to seq : ℕ) (rs : List Row) → from ≤ to → (from ≤ place_of from to seq rs) × (place_of from to seq rs ≤ to)
unfolding place_of
place-within from to seq rs l =
    guarded (λ (n : ℕ). (from ≤ n) × (n ≤ to)) from to to (length rs) (place_from from seq (slice from to rs)) to
    (λ h b. let t = place-from-within from seq (slice from to rs) in (t.0, omega (arith, length-slice from to rs b)))
    (l, omega arith)
