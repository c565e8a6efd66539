-- The first element that passes a test, by its place: what `find`, `put` and `without` make of a list; and the consumer with an identifier, by
-- its place in the table. Assumes nothing.
use Rattle.std.specs.Prelude.{Some, None}
use mathlib.Core.Path.{◌≡◌, refl, ap, ◌∙◌}
use mathlib.Core.Bool.{Bool, true, false}
use mathlib.Core.List.{List, [], ◌∷◌, ◌++◌}
use mathlib.Core.Option.{none, some}
use Prim.Native.Nat.{ℕ, suc, ◌+◌, ◌<◌}
use native.Mathlib.Omega.{arith}
use lib.ListN.{length, take, drop, set}
use Rattle.words.proofs.Tests.{by-test}
use Rattle.model.specs.declared.Id.{Id}
use Rattle.model.specs.Model.{same_id}
use Rattle.definition.specs.Base.{find, put, nth}
use Rattle.definition.specs.Types.{Kind}
use Rattle.definition.specs.Types as Def
use Rattle.definition.specs.Destination.{is_id, without}
use Rattle.definition.specs.Layout.{Row, id_at, sub_at, each_sub, subs_at}
use Rattle.consumers.specs.Seats.{sub_in}
use Rattle.consumers.specs.Table.{position_from}
use Rattle.consumers.proofs.View.{subs-nth}

-- ---- a test and its first place

module _ {A : Type 0} (p : A → Bool) where
  -- the first that passes stands at this place; or none passes
  pub data First : List A → ℕ → Type 0 where
    here : {x : A} {l : List A} → p x ≡ true → First (x ∷ l) 0
    there : {x : A} {l : List A} {i : ℕ} → p x ≡ false → First l i → First (x ∷ l) (suc i)

  pub data Never : List A → Type 0 where
    nowhere : Never []
    not-here : {x : A} {l : List A} → p x ≡ false → Never l → Never (x ∷ l)

module _ {A : Type 0} {p : A → Bool} where
  pub first-within : {l : List A} {i : ℕ} → First p l i → i < length l
  first-within (here t) = omega arith
  first-within (there t f) = omega (arith, first-within f)

  pub first-find : {l : List A} {i : ℕ} → First p l i → find p l ≡ nth i l
  first-find (here t) = rw t
  first-find (there t f) = rw t (first-find f)

  pub first-put : {l : List A} {i : ℕ} (v : A) → First p l i → put p v l ≡ set l i v
  first-put v (here t) = rw t
  first-put v (there {x} t f) = rw t (ap (λ (r : List A). x ∷ r) (first-put v f))

  pub never-find : {l : List A} → Never p l → find p l ≡ none
  never-find nowhere = refl
  never-find (not-here t f) = rw t (never-find f)

module _ {p : Def.Sub → Bool} where
  pub first-without : {l : List Def.Sub} {i : ℕ} → First p l i → without p l ≡ take i l ++ drop (suc i) l
  first-without (here t) = rw t
  first-without (there {x} t f) = rw t (ap (λ (r : List Def.Sub). x ∷ r) (first-without f))

-- ---- the consumer with an identifier

abbrev pub row_is : Id → Row → Bool
row_is id w = same_id (id_at w) id

seek : (m : ℕ) (id : Id) (ws : List Row) (i : ℕ) → position_from m id ws ≡ Some i → (d : ℕ) × (i ≡ m + d) × First (row_is id) ws d
unfolding position_from
seek m id [] i e = absurd (let z : ◌≡◌ {A = ℕ} 0 1 = cc in omega arith)
seek m id (w ∷ ws) i e = by-test (row_is id w)
    (λ t. let q : Some m ≡ Some i = rw t at e in let z : m ≡ i = cc in (0, omega arith, here t))
    (λ t. let r = seek (suc m) id ws i (rw t at e) in (suc r.0, omega (arith, r.1), there t r.2))

miss : (m : ℕ) (id : Id) (ws : List Row) → position_from m id ws ≡ None → Never (row_is id) ws
unfolding position_from
miss m id [] e = nowhere
miss m id (w ∷ ws) e = by-test (row_is id w)
    (λ t. let q : Some m ≡ None = rw t at e in absurd (let z : ◌≡◌ {A = ℕ} 0 1 = cc in omega arith))
    (λ t. not-here t (miss (suc m) id ws (rw t at e)))

-- the table's place is the view's
first-sub : (k : Kind) (id : Id) {ws : List Row} {i : ℕ} (rows : List Row) → First (row_is id) ws i → First (is_id id) (subs_at k ws rows) i
unfolding each_sub sub_at
first-sub k id rows (here t) = here t
first-sub k id rows (there t f) = there t (first-sub k id _ f)

never-sub : (k : Kind) (id : Id) {ws : List Row} (rows : List Row) → Never (row_is id) ws → Never (is_id id) (subs_at k ws rows)
unfolding each_sub sub_at
never-sub k id rows nowhere = nowhere
never-sub k id rows (not-here t f) = not-here t (never-sub k id _ f)

module _ (id : Id) (ws : List Row) (i : ℕ) (e : position_from 0 id ws ≡ Some i) where
  pub position_first : First (row_is id) ws i
  position_first = let r = seek 0 id ws i e in let d : r.0 ≡ i = omega (arith, r.1) in rw d at r.2

  pub position-within : i < length ws
  position-within = first-within position_first

  pub found_at : (k : Kind) (rows : List Row) → find (is_id id) (subs_at k ws rows) ≡ some (sub_in k ws rows i)
  found_at k rows = first-find (first-sub k id rows position_first) ∙ subs-nth k ws rows i position-within

  pub put-at : (k : Kind) (rows : List Row) (s : Def.Sub) → put (is_id id) s (subs_at k ws rows) ≡ set (subs_at k ws rows) i s
  put-at k rows s = first-put s (first-sub k id rows position_first)

  pub without_at : (k : Kind) (rows : List Row) → without (is_id id) (subs_at k ws rows) ≡ take i (subs_at k ws rows) ++ drop (suc i) (subs_at k ws rows)
  without_at k rows = first-without (first-sub k id rows position_first)

module _ (id : Id) (ws : List Row) (e : position_from 0 id ws ≡ None) where
  pub position-never : Never (row_is id) ws
  position-never = miss 0 id ws e

  pub found_none : (k : Kind) (rows : List Row) → find (is_id id) (subs_at k ws rows) ≡ none
  found_none k rows = never-find (never-sub k id rows position-never)
