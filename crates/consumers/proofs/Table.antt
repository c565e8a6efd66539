-- A turn of each loop over the first n rows, as its definition has it. Assumes nothing.
use Rattle.std.specs.Prelude.{Some, None}
use mathlib.Core.Path.{◌≡◌, refl, sym, ap, ◌∙◌}
use mathlib.Core.Bool.{Bool, true, false}
use mathlib.Core.List.{List, [], ◌∷◌}
use Prim.Native.Nat.{ℕ, suc, ◌+◌, ◌≤◌, ◌<◌, min}
use native.Mathlib.Omega.{arith}
use lib.ListN.{length, get_or}
use lib.Seq.{slice}
use lib.Dec.{ltb}
use mathlib.Core.Bool.{cond}
use Rattle.std.specs.List.{fold, position_or_len}
use Rattle.words.proofs.Tests.{by-test}
use borrow.Author.Tests.{lt-ltb, le-ltb, ltb-true, ltb-false}
use Rattle.model.specs.declared.Id.{Id}
use Rattle.model.specs.Model.{same_id}
use Rattle.definition.specs.Base.{tally, all}
use Rattle.definition.specs.Layout.{Row, id_at, inflight_count, held_count, sub_rows}
use Rattle.consumers.specs.Table.{position_from}
use Rattle.consumers.proofs.Lists.{first_next, first_ended}

-- place i is among the first n
module _ (i n : ℕ) (l : List Row) (h : i < min n (length l)) where
  pub rows_next : sub_rows (slice i n l) ≡ inflight_count (get_or l i []) + (held_count (get_or l i []) + sub_rows (slice (i + 1) n l))
  unfolding sub_rows
  rows_next = rw (first_next i n l [] h)

  module _ (p : Row → Bool) where
    pub tally-hit : p (get_or l i []) ≡ true → tally p (slice i n l) ≡ 1 + tally p (slice (i + 1) n l)
    tally-hit t = rw (first_next i n l [] h, t)

    pub tally-miss : p (get_or l i []) ≡ false → tally p (slice i n l) ≡ tally p (slice (i + 1) n l)
    tally-miss t = rw (first_next i n l [] h, t) (omega arith)

    pub all-next : p (get_or l i []) ≡ true → all p (slice i n l) ≡ all p (slice (i + 1) n l)
    all-next t = rw (first_next i n l [] h, t)

    pub all-not : p (get_or l i []) ≡ false → all p (slice i n l) ≡ false
    all-not t = rw (first_next i n l [] h, t)

-- and there are no more
module _ (i n : ℕ) (l : List Row) (h : min n (length l) ≤ i) where
  pub rows_none : sub_rows (slice i n l) ≡ 0
  unfolding sub_rows
  rows_none = rw (first_ended i n l h)

  pub tally-none : (p : Row → Bool) → tally p (slice i n l) ≡ 0
  tally-none p = rw (first_ended i n l h)

  pub all_none : (p : Row → Bool) → all p (slice i n l) ≡ true
  all_none p = rw (first_ended i n l h)

-- ---- what a chain over rows gives

found-here : (i k m : ℕ) → k ≡ 0 → 0 < m → cond (ltb k m) (Some (i + k)) None ≡ Some i
found-here i k m e h = rw (lt-ltb k m (omega arith)) (ap Some (omega arith))

found-later : (i k m a b : ℕ) → a ≡ 1 + k → b ≡ 1 + m → cond (ltb a b) (Some (i + a)) None ≡ cond (ltb k m) (Some (suc i + k)) None
found-later i k m a b e f = by-test (ltb k m)
    (λ t. let h : a < b = omega (arith, ltb-true k m t) in rw (t, lt-ltb a b h) (ap Some (omega arith)))
    (λ t. let h : b ≤ a = omega (arith, ltb-false k m t) in rw (t, le-ltb a b h))

module _ (id : Id) where
  abbrev same : Row → Bool
  same w = same_id (id_at w) id

  from : (i : ℕ) (ws : List Row) → cond (ltb (position_or_len same ws) (length ws)) (Some (i + position_or_len same ws)) None ≡ position_from i id ws
  unfolding position_from
  from i [] = refl
  from i (w ∷ ws) =
      let k : ℕ = position_or_len same (w ∷ ws) in
      by-test (same w)
      (λ t. found-here i k (length (w ∷ ws)) (rw t) (omega arith) ∙ sym (rw t))
      (λ t. found-later i (position_or_len same ws) (length ws) k (length (w ∷ ws)) (rw t) (omega arith) ∙ from (suc i) ws ∙ sym (rw t))

  pub position-chain : (ws : List Row) → cond (ltb (position_or_len same ws) (length ws)) (Some (position_or_len same ws)) None ≡ position_from 0 id ws
  position-chain ws = ap (λ (k : ℕ). cond (ltb (position_or_len same ws) (length ws)) (Some k) None) (omega arith) ∙ from 0 ws

-- a sum with a bound: the bound on each number and on each sum so far changes nothing
module _ (f : Row → ℕ) (total : List Row → ℕ) (none : total [] ≡ 0) (more : (w : Row) (ws : List Row) → total (w ∷ ws) ≡ f w + total ws) where
  capped : (a : ℕ) (ws : List Row) → a ≤ 513 → fold (λ n w. min 513 (n + min 513 (f w))) a ws ≡ min 513 (a + total ws)
  capped a [] h = omega (arith, none)
  capped a (w ∷ ws) h = capped (min 513 (a + min 513 (f w))) ws (omega arith) ∙ omega (arith, more w ws)

  pub fold-capped : (ws : List Row) → fold (λ n w. min 513 (n + min 513 (f w))) 0 ws ≡ min 513 (total ws)
  fold-capped ws = capped 0 ws (omega arith) ∙ omega arith
