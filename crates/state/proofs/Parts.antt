-- The rows about one consumer, when the first of those that it holds goes or is sent. Assumes nothing.
use mathlib.Core.Path.{◌≡◌, sym, ap, ap₂, ◌∙◌}
use mathlib.Core.Bool.{true, ◌&&◌}
use mathlib.Core.List.{List, [], ◌∷◌, ◌++◌}
use Prim.Native.Nat.{ℕ, suc, ◌+◌, ◌-◌, ◌≤◌, ◌<◌}
use native.Mathlib.Numerals.{add-one}
use native.Mathlib.Omega.{arith}
use lib.ListN.{length, take, drop, get_or, set, length-drop}
use lib.Seq.{slice, length-take-le, drop_at, drop-cons, take-set-le, drop-set-lt, drop-set-add, take-suc-set, drop-drop}
use Rattle.definition.specs.Base.{all}
use Rattle.definition.specs.Layout.{Row, entry_strict, flying_strict}
use Rattle.definition.proofs.Tests.{and_left, and_right}
use Rattle.definition.proofs.Lists.{all_end}
use Rattle.consumers.specs.Seats.{OwnStrict}
use Rattle.table.specs.Table.{close_gap}
use Rattle.table.proofs.Lists.{slice-take, agree-take, agree-drop}
use Rattle.table.proofs.Laws.{close-before, close-used}
use Rattle.state.specs.Parts.{Parts, parts_of}

part-cons : (f h : ℕ) (l : List Row) → 0 < h → f < length l → take h (drop f l) ≡ get_or l f [] ∷ take (h - 1) (drop (f + 1) l)
part-cons f h l p q =
    let e : h ≡ suc (h - 1) = omega arith in
    ap₂ take e (drop-cons l f [] q) ∙ ap (λ (n : ℕ). get_or l f [] ∷ take (h - 1) (drop n l)) (sym (add-one f))

-- what stood after a row that went
closed-high : (f n : ℕ) (l : List Row) → f + 1 ≤ n → n ≤ length l → take (n - (f + 1)) (drop f (close_gap f 1 n l)) ≡ take (n - (f + 1)) (drop (f + 1) l)
closed-high f n l h b =
    let c : List Row = close_gap f 1 n l in
    let e : n - (f + 1) ≡ n - 1 - f = omega arith in
    ap (λ (m : ℕ). take m (drop f c)) e
    ∙ sym (slice-take f (n - 1) c (omega arith))
    ∙ ap (drop f) (close-used f 1 n l h b)
    ∙ drop_at (take f l) (slice (f + 1) n l) f (length-take-le f l (omega arith))
    ∙ slice-take (f + 1) n l h

-- numbers, apart from the rest
lefts : (u f h : ℕ) → 0 < h → f + h ≤ u → u - 1 - (f + (h - 1)) ≡ u - (f + 1) - (h - 1)
lefts u f h p q = omega arith

lefts' : (u f h : ℕ) → 0 < h → f + h ≤ u → u - (f + 1) - (h - 1) ≡ u - (f + h)
lefts' u f h p q = omega arith

module _ (base a h u : ℕ) (rows : List Row) (some : 0 < h) (fits : base + a + h ≤ u) (long : u ≤ length rows) where
  abbrev f : ℕ
  f = base + a

  -- those that stay held
  abbrev rest : List Row
  rest = take (h - 1) (drop (f + 1) rows)

  pub held_first : take h (drop f rows) ≡ get_or rows f [] ∷ rest
  held_first = part-cons f h rows some (omega arith)

  -- the first has gone
  pub parts-lost : parts_of base a (h - 1) (u - 1) (close_gap f 1 u rows)
      ≡ record { before = take base rows; flying = take a (drop base rows); held = rest; after = take (u - (f + h)) (drop (f + h) rows) }
  parts-lost =
      let m : ℕ = f + 1 in
      let c : List Row = close_gap f 1 u rows in
      let few : h - 1 ≤ u - m = omega arith in
      let span : f - base ≡ a = omega arith in
      let end : m + (h - 1) ≡ f + h = omega arith in
      let low : take f c ≡ take f rows = close-before f 1 u rows f (omega arith) in
      let high : take (u - m) (drop f c) ≡ take (u - m) (drop m rows) = closed-high f u rows (omega arith) long in
      let mid : take a (drop base c) ≡ take a (drop base rows) =
      ap (λ (n : ℕ). take n (drop base c)) (sym span) ∙ agree-drop base f c rows low (omega arith) ∙ ap (λ (n : ℕ). take n (drop base rows)) span in
      let own : take (h - 1) (drop f c) ≡ rest = agree-take (h - 1) (u - m) (drop f c) (drop m rows) high few in
      let tail : take (u - 1 - (f + (h - 1))) (drop (f + (h - 1)) c) ≡ take (u - (f + h)) (drop (f + h) rows) =
      ap₂ take (lefts u f h some fits) (sym (drop-drop (h - 1) f c))
      ∙ agree-drop (h - 1) (u - m) (drop f c) (drop m rows) high few
      ∙ ap₂ take (lefts' u f h some fits) (drop-drop (h - 1) m rows ∙ ap (λ (n : ℕ). drop n rows) end) in
      λ i. record { before = close-before f 1 u rows base (omega arith) i; flying = mid i; held = own i; after = tail i }

  -- or it is sent, as the row x
  pub parts-sent : (x : Row) → parts_of base (a + 1) (h - 1) u (set rows f x)
      ≡ record { before = take base rows; flying = take a (drop base rows) ++ (x ∷ []); held = rest; after = take (u - (f + h)) (drop (f + h) rows) }
  parts-sent x =
      let l : List Row = set rows f x in
      let on : a + 1 ≡ suc a = omega arith in
      let up : base + (a + 1) ≡ f + 1 = omega arith in
      let end : base + (a + 1) + (h - 1) ≡ f + h = omega arith in
      let mine : take (a + 1) (drop base l) ≡ take a (drop base rows) ++ (x ∷ []) =
      ap₂ take on (drop-set-add base rows a x) ∙ take-suc-set (drop base rows) a x (simp length-drop (omega arith)) in
      let own : take (h - 1) (drop (base + (a + 1)) l) ≡ rest =
      ap (take (h - 1)) (drop-set-lt (base + (a + 1)) rows f x (omega arith) ∙ ap (λ (n : ℕ). drop n rows) up) in
      let tail : take (u - (base + (a + 1) + (h - 1))) (drop (base + (a + 1) + (h - 1)) l) ≡ take (u - (f + h)) (drop (f + h) rows) =
      ap (λ (n : ℕ). take (u - n) (drop n l)) end ∙ ap (take (u - (f + h))) (drop-set-lt (f + h) rows f x (omega arith)) in
      λ i. record { before = take-set-le base rows f x (omega arith) i; flying = mine i; held = own i; after = tail i }

  -- their words stay strict
  module _ (o : OwnStrict base a h rows) where
    pub first-strict : (entry_strict (get_or rows f []) ≡ true) × (all entry_strict rest ≡ true)
    first-strict =
        let e : (entry_strict (get_or rows f []) && all entry_strict rest) ≡ true = ap (all entry_strict) (sym held_first) ∙ o.held in
        (and_left (entry_strict (get_or rows f [])) _ e, and_right (entry_strict (get_or rows f [])) _ e)

    pub strict-lost : OwnStrict base a (h - 1) (close_gap f 1 u rows)
    strict-lost = record {
      flying = ap (λ (x : Parts). all flying_strict x.flying) parts-lost ∙ o.flying;
      held = ap (λ (x : Parts). all entry_strict x.held) parts-lost ∙ first-strict.1;
    }

    pub strict-sent : (x : Row) → flying_strict x ≡ true → OwnStrict base (a + 1) (h - 1) (set rows f x)
    strict-sent x s = record {
      flying = ap (λ (y : Parts). all flying_strict y.flying) (parts-sent x) ∙ all_end flying_strict (take a (drop base rows)) x o.flying s;
      held = ap (λ (y : Parts). all entry_strict y.held) (parts-sent x) ∙ first-strict.1;
    }
