-- The rows that cover a layout. Assumes nothing.
use Rattle.std.proofs.Common.{Option, MatchOption, unwrap_or}
use Rattle.std.specs.List.{AllWithin, HoldsAt}
use Rattle.std.proofs.lemmas.Iterator.{index_from_first}
use Prim.Native.Nat.{ℕ, suc, ◌+◌, ◌≤◌, ◌<◌}
use native.Mathlib.Nat.{zero-add}
use native.Mathlib.Numerals.{add-one}
use native.Mathlib.Omega.{arith}
use mathlib.Core.Path.{◌≡◌, refl, ap, ◌∙◌}
use mathlib.Core.Bool.{true, false}
use mathlib.Core.List.{List, [], ◌∷◌}
use lib.ListN.{length, get_or, drop, length-drop, drop_of_length-le}
use lib.Seq.{get_or-drop}
use Rattle.words.proofs.Tests.{by-test}
use Rattle.layouts.specs.Layouts.{covers, cover_count}
use Rattle.layouttext.specs.Verdict.{cover_at, next_cover}
use Rattle.layouttext.specs.Claims.{Two}

-- ---- a place after another

pub cover-end : (l : ℕ) (t : List (List ℕ)) (i : ℕ) → length t ≤ i → cover_at l (drop i t) ≡ 0
unfolding cover_at
cover-end l t i h = rw (drop_of_length-le t h)

-- where the first row is that covers a layout
pub cover-position : (l : ℕ) (t : List (List ℕ)) (r : Option ℕ) → MatchOption r (AllWithin (λ (row : List ℕ). covers row l ≡ false) t 0 (length t)) (λ (i : ℕ). (i < length t) × HoldsAt (λ (row : List ℕ). covers row l ≡ true) t i × AllWithin (λ (row : List ℕ). covers row l ≡ false) t 0 i) → cover_at l t ≡ unwrap_or r (length t)
unfolding cover_at
cover-position l t r h = index_from_first (cover_at l) (λ (row : List ℕ). covers row l ≡ true) (λ (row : List ℕ). covers row l ≡ false) refl (λ x xs e. rw e) (λ x xs e. rw (e, add-one (cover_at l xs))) t r h

-- ---- two rows

-- the first row that covers a layout, and the others that do
pub record Cover (l : ℕ) (t : List (List ℕ)) : Type 0 where
  pub within : cover_at l t < length t
  pub row : covers (get_or t (cover_at l t) []) l ≡ true
  pub rest : cover_count (drop (suc (cover_at l t)) t) l + 1 ≡ cover_count t l

pub cover : (l : ℕ) (t : List (List ℕ)) → 0 < cover_count t l → Cover l t
unfolding cover_at
cover l [] h = absurd (omega arith)
cover l (row ∷ rows) h = by-test (covers row l)
    (λ e. record { within = rw e (omega arith); row = rw e e; rest = rw e (omega arith) })
    (λ e.
    let g : 0 < cover_count rows l = (let z = rw e at h in omega (arith, z)) in
    let c = cover l rows g in
    record { within = rw e (omega (arith, c.within)); row = rw e c.row; rest = rw e (omega (arith, c.rest)) })

pub two : (l : ℕ) (t : List (List ℕ)) → 2 ≤ cover_count t l → Two l t
two l t h =
    let a = cover l t (omega arith) in
    let i = cover_at l t in
    let n : i + 1 ≡ suc i = add-one i in
    let b = cover l (drop (i + 1) t) (rw n (omega (arith, a.rest))) in
    let w : i + 1 + cover_at l (drop (i + 1) t) < length t = omega (arith, b.within, length-drop (i + 1) t) in
    record {
      order = omega arith;
      within = w;
      row = a.row;
      other = rw get_or-drop at b.row;
    }

-- where two scans find them
pub record Found (l : ℕ) (t : List (List ℕ)) (i j : ℕ) : Type 0 where
  pub at : i ≡ cover_at l t
  pub next : j ≡ next_cover l t
  pub order : i < j
  pub within : j < length t

pub scanned : (l : ℕ) (t : List (List ℕ)) {i j : ℕ} → 2 ≤ cover_count t l → i ≡ 0 + cover_at l (drop 0 t) → j ≡ i + 1 + cover_at l (drop (i + 1) t) → Found l t i j
scanned l t {i} {j} h e f =
    let w = two l t h in
    let a : i ≡ cover_at l t = e ∙ zero-add (cover_at l t) in
    let b : j ≡ next_cover l t = f ∙ ap (λ (k : ℕ). k + 1 + cover_at l (drop (k + 1) t)) a in
    record { at = a; next = b; order = omega (arith, w.order); within = omega (arith, w.within) }
