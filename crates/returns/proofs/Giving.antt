-- The loop over what a leaving consumer had in flight, a turn at a time. Assumes nothing.
use mathlib.Core.Path.{◌≡◌, refl, sym, ap, ap₂, ◌∙◌, subst}
use mathlib.Core.Bool.{true, false}
use mathlib.Core.List.{List, [], ◌∷◌, map}
use Prim.Native.Nat.{ℕ, suc, ◌+◌, ◌-◌, ◌≤◌, ◌<◌}
use native.Mathlib.Nat.{add-zero}
use native.Mathlib.Omega.{arith}
use lib.IntN.{ℤ}
use lib.ListN.{length, take, drop, get_or}
use lib.Seq.{slice, slice_empty, slice-cons, drop_at, length-take-le}
use Rattle.entry.specs.Entry.{entry_of}
use Rattle.definition.specs.Types.{Id, Entry, Audit, Dest}
use Rattle.definition.specs.Destination.{reinsert}
use Rattle.definition.specs.Words.{at}
use Rattle.definition.specs.Layout.{Row, flag, inflight_at}
use Rattle.definition.proofs.Tests.{if-true, if-false}
use Rattle.state.specs.declared.Head.{Head}
use Rattle.state.specs.State.{first_waiting}
use Rattle.returns.specs.Returns.{held_for, reserves, given_back, gives, gives_all}
use Rattle.returns.specs.Gaps.{cut, around, StrictAround, Moves, Same, Gap, GaveBack}
use Rattle.returns.proofs.Rows.{take-of, cut-front}
use Rattle.returns.proofs.Reinsert.{gives_none, gives_more}
use Rattle.returns.proofs.Moving.{moves-as}
use Rattle.returns.proofs.Gap.{same_rest, same-both, gap-moves}

-- the gap's rows after its first one has gone
pub rest_of : (from k n : ℕ) (l m : List Row) → 0 < k → from + k ≤ n → n ≤ length l → take (n - 1) m ≡ cut from 1 n l → slice from (from + (k - 1)) m ≡ slice (suc from) (from + k) l
rest_of from k n l m some h b e =
    let a : from + (k - 1) ≡ from + k - 1 = omega arith in
    let c : from + 1 ≡ suc from = omega arith in
    ap (λ (t : ℕ). slice from t m) a
    ∙ ap (drop from) (take-of (from + k - 1) (n - 1) m (cut from 1 n l) (omega arith) e ∙ cut-front from 1 (from + k) n l (omega arith) h (omega arith))
    ∙ drop_at (take from l) (slice (from + 1) (from + k) l) from (length-take-le from l (omega arith))
    ∙ ap (λ (t : ℕ). slice t (from + k) l) c

module _ (now : ℕ) (last : ℤ) (j : Id) (from : ℕ) (d₀ : Head) (subs₀ rows₀ : List Row) where
  -- what all that is left will come to
  abbrev coming : ℕ → Head → List Row → List Row → List Id → List Audit → Dest
  coming k d subs rows p u = gives_all now last j (map inflight_at (slice from (from + k) rows)) (around from k d subs rows p u)

  pub record Giving (k₀ k : ℕ) (d : Head) (subs rows : List Row) : Type 0 where
    pub gap : Gap from k d subs rows
    pub same : Same d₀ d subs₀ rows₀ subs rows
    pub said : (p : List Id) (u : List Audit) → coming k d subs rows p u ≡ coming k₀ d₀ subs₀ rows₀ p u
    pub strict : StrictAround from k₀ d₀ subs₀ rows₀ → StrictAround from k d subs rows

  pub giving-start : (k : ℕ) → Gap from k d₀ subs₀ rows₀ → Giving k k d₀ subs₀ rows₀
  giving-start k g = record { gap = g; same = same_rest d₀ subs₀ rows₀; said = λ p u. refl; strict = λ s. s }

  pub giving-turn : (k₀ k : ℕ) (d r : Head) (subs rows subs' rows' : List Row) → Giving k₀ k d subs rows → 0 < k
      → Moves from (gives now last j (inflight_at (get_or rows from []))) d r subs rows subs' rows' → Giving k₀ (k - 1) r subs' rows'
  giving-turn k₀ k d r subs rows subs' rows' g some m =
      let a : Gap from k d subs rows = g.gap in
      let fits : first_waiting d ≤ length rows = omega (arith, a.used, a.long) in
      let within : from + k ≤ first_waiting d = omega (arith, a.sum, a.low) in
      let x : Row = get_or rows from [] in
      let rest : List Row = slice (suc from) (from + k) rows in
      let all : slice from (from + k) rows ≡ x ∷ rest = slice-cons from (from + k) rows [] (omega arith) (omega arith) in
      record {
        gap = gap-moves a some m;
        same = same-both g.same m.same;
        said = λ p u.
            ap₂ (λ (l : List Row) (t : Dest). gives_all now last j (map inflight_at l) t) (rest_of from k (first_waiting d) rows rows' some within fits m.low) (m.view k p u some (omega (arith, a.sum, a.low)) a.sum)
            ∙ sym (gives_more now last j (inflight_at x) (map inflight_at rest) (around from k d subs rows p u))
            ∙ ap (λ (l : List Row). gives_all now last j (map inflight_at l) (around from k d subs rows p u)) (sym all)
            ∙ g.said p u;
        strict = λ s. m.strict k some (omega (arith, a.sum, a.low)) a.sum (g.strict s);
      }

  pub giving-end : (k₀ k : ℕ) (d : Head) (subs rows : List Row) → Giving k₀ k d subs rows → k ≤ 0 → GaveBack now last j from k₀ d₀ d subs₀ rows₀ subs rows
  giving-end k₀ k d subs rows g h =
      let z : k ≡ 0 = omega arith in
      let none : slice from (from + 0) rows ≡ [] = ap (λ (n : ℕ). slice from n rows) (add-zero from) ∙ slice_empty from rows in
      record {
        view = λ p u.
            sym (gives_none now last j (around from 0 d subs rows p u))
            ∙ ap (λ (l : List Row). gives_all now last j (map inflight_at l) (around from 0 d subs rows p u)) (sym none)
            ∙ ap (λ (n : ℕ). coming n d subs rows p u) (sym z)
            ∙ g.said p u;
        strict = λ s. subst (λ (n : ℕ). StrictAround from n d subs rows) z (g.strict s);
        gap = rw z at g.gap;
        same = g.same;
      }

-- what one row does, by its transaction mark
module _ (now : ℕ) (last : ℤ) (j : Id) (from : ℕ) (d r : Head) (subs rows subs' rows' : List Row) (row : Row) (e : Entry) where
  pub moves-tx : e ≡ entry_of row → flag (at 8 row) ≡ true → Moves from (reserves (held_for j e)) d r subs rows subs' rows' → Moves from (gives now last j (inflight_at row)) d r subs rows subs' rows'
  moves-tx is x m =
      moves-as from (reserves (held_for j e)) (gives now last j (inflight_at row)) d r subs rows subs' rows'
      (λ t. ap (λ (y : Entry). reserves (held_for j y) t) is ∙ sym (if-true (reserves (held_for j (entry_of row)) t) (reinsert now (given_back last (entry_of row) ∷ []) t) x)) m

  pub moves-no-tx : e ≡ given_back last (entry_of row) → flag (at 8 row) ≡ false → Moves from (reinsert now (e ∷ [])) d r subs rows subs' rows' → Moves from (gives now last j (inflight_at row)) d r subs rows subs' rows'
  moves-no-tx is x m =
      moves-as from (reinsert now (e ∷ [])) (gives now last j (inflight_at row)) d r subs rows subs' rows'
      (λ t. ap (λ (y : Entry). reinsert now (y ∷ []) t) is ∙ sym (if-false (reserves (held_for j (entry_of row)) t) (reinsert now (given_back last (entry_of row) ∷ []) t) x)) m
