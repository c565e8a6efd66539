-- The loop that copies rows of a segment to places before it, a row at a time. Assumes nothing.
use mathlib.Core.Path.{◌≡◌, refl, sym, ap, ap₂, ◌∙◌}
use mathlib.Core.Bool.{Bool, true, false}
use mathlib.Core.List.{List, [], ◌∷◌, ◌++◌}
use Prim.Native.Nat.{ℕ, ◌+◌, ◌≤◌, ◌<◌}
use native.Mathlib.Numerals.{add-one}
use native.Mathlib.Omega.{arith}
use lib.ListN.{length, take, drop, get_or, set, length-set}
use lib.Seq.{slice, slice_empty, slice-cons}
use Rattle.definition.specs.Base.{whether◌then◌else◌, keep, tally}
use Rattle.definition.specs.Layout.{Row}
use Rattle.definition.proofs.Lists.{keep-count}
use Rattle.table.proofs.Lists.{slice_snoc, written, written_none, written_at, written-more}
use Rattle.table.proofs.Segments.{tally-turn, tally-none}
use Rattle.joins.specs.Joins.{shown_by, copied_from}
use Rattle.joins.proofs.Lists.{keep-more, keep_same}

-- rows from..i are done, and j is where the next copy goes
pub record Copying (selector at from to : ℕ) (rs now : List Row) (j i : ℕ) : Type 0 where
  pub from_low : from ≤ i
  pub within : i ≤ to
  pub end : to ≤ length rs
  pub same : length now ≡ length rs
  pub place : j ≡ at + tally (shown_by selector) (slice from i rs)
  pub room : j + tally (shown_by selector) (slice i to rs) ≤ from
  pub said : now ≡ copied_from at from i selector rs

module _ (selector at from to : ℕ) (rs : List Row) where
  abbrev p : Row → Bool
  p = shown_by selector

  pub copying-start : at + tally p (slice from to rs) ≤ from → from ≤ to → to ≤ length rs → Copying selector at from to rs rs at from
  unfolding copied_from written
  copying-start h k b =
      let z = tally-none p from rs in
      let e : at ≡ at + tally p (slice from from rs) = omega arith in
      record {
        from_low = omega arith;
        within = k;
        end = b;
        same = refl;
        place = e;
        room = h;
        said = written_none at rs ∙ ap₂ (λ (l : List Row) (n : ℕ). take at rs ++ (keep p l ++ drop n rs)) (sym (slice_empty from rs)) e;
      }

  module _ (now : List Row) (j i : ℕ) (g : Copying selector at from to rs now j i) where
    pub copying-end : to ≤ i → now ≡ copied_from at from to selector rs
    copying-end h = let e : i ≡ to = omega (arith, g.within) in g.said ∙ ap (λ (n : ℕ). copied_from at from n selector rs) e

    size : at + length (keep p (slice from i rs)) ≡ at + tally p (slice from i rs)
    size = ap (λ (n : ℕ). at + n) (keep-count p (slice from i rs))

    module _ (less : i < to) where
      inside : i < length rs
      inside = omega (arith, g.end)

      before : at + tally p (slice from i rs) ≤ from
      before = omega (arith, g.place, g.room)

      -- the row that the loop reads
      pub copying-at : get_or now i [] ≡ get_or rs i []
      unfolding copied_from written
      copying-at =
          ap (λ (l : List Row). get_or l i []) g.said
          ∙ written_at at (at + tally p (slice from i rs)) (keep p (slice from i rs)) rs size i [] (omega (arith, before, g.from_low)) (omega (arith, before, g.from_low, inside))

      rest : tally p (slice i to rs) ≡ (whether p (get_or rs i []) then 1 else 0) + tally p (slice (i + 1) to rs)
      rest = ap (tally p) (slice-cons i to rs [] less g.end ∙ ap (λ (n : ℕ). get_or rs i [] ∷ slice n to rs) (sym (add-one i)))

      grows : slice from (i + 1) rs ≡ slice from i rs ++ (get_or rs i [] ∷ [])
      grows = slice_snoc from i rs [] g.from_low inside

      pub copying-room : p (get_or now i []) ≡ true → j < from
      copying-room t = omega (arith, g.room, rest, ap (λ (b : Bool). whether◌then◌else◌ {A = ℕ} b 1 0) (ap p (sym copying-at) ∙ t))

      pub copying-hit : p (get_or now i []) ≡ true → Copying selector at from to rs (set now j (get_or now i [])) (j + 1) (i + 1)
      unfolding copied_from written
      copying-hit t =
          let x : Row = get_or rs i [] in
          let h : p x ≡ true = ap p (sym copying-at) ∙ t in
          let one : ◌≡◌ {A = ℕ} (whether p x then 1 else 0) 1 = ap (λ (b : Bool). whether◌then◌else◌ {A = ℕ} b 1 0) h in
          let more : tally p (slice from (i + 1) rs) ≡ tally p (slice from i rs) + (whether p x then 1 else 0) = tally-turn p from i rs x g.from_low inside refl in
          let less_one = rest in
          let q : j + 1 ≡ at + tally p (slice from (i + 1) rs) = omega (arith, g.place) in
          let n : ℕ = at + tally p (slice from i rs) in
          let small : n < length rs = omega (arith, before, g.room, g.place, inside, g.from_low) in
          let e : n + 1 ≡ at + tally p (slice from (i + 1) rs) = omega arith in
          record {
            from_low = omega (arith, g.from_low);
            within = omega arith;
            end = g.end;
            same = simp length-set g.same;
            place = q;
            room = omega (arith, g.room);
            said =
                ap₂ (λ (y : Row) (m : ℕ). set now m y) copying-at g.place
                ∙ ap (λ (l : List Row). set l n x) g.said
                ∙ written-more at n (keep p (slice from i rs)) rs size x small
                ∙ ap₂ (λ (l : List Row) (m : ℕ). take at rs ++ (l ++ drop m rs)) (sym (ap (keep p) grows ∙ keep-more p (slice from i rs) x h)) e;
          }

      pub copying-miss : p (get_or now i []) ≡ false → Copying selector at from to rs now j (i + 1)
      unfolding copied_from
      copying-miss t =
          let x : Row = get_or rs i [] in
          let h : p x ≡ false = ap p (sym copying-at) ∙ t in
          let one : ◌≡◌ {A = ℕ} (whether p x then 1 else 0) 0 = ap (λ (b : Bool). whether◌then◌else◌ {A = ℕ} b 1 0) h in
          let more : tally p (slice from (i + 1) rs) ≡ tally p (slice from i rs) + (whether p x then 1 else 0) = tally-turn p from i rs x g.from_low inside refl in
          let less_one = rest in
          let e : tally p (slice from i rs) ≡ tally p (slice from (i + 1) rs) = omega arith in
          record {
            from_low = omega (arith, g.from_low);
            within = omega arith;
            end = g.end;
            same = g.same;
            place = omega (arith, g.place);
            room = omega (arith, g.room);
            said = g.said ∙ ap₂ (λ (l : List Row) (m : ℕ). take at rs ++ (l ++ drop (at + m) rs)) (sym (ap (keep p) grows ∙ keep_same p (slice from i rs) x h)) e;
          }
