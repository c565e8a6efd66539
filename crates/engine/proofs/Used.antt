-- The rows in use are all the rows of the view in another order: as many, and with the same numbers. Assumes nothing.
use mathlib.Core.Path.{◌≡◌, refl, sym, ap, ap₂, ◌∙◌}
use mathlib.Core.Bool.{Bool, true, false, ◌||◌, or-true, or-false}
use mathlib.Core.List.{List, [], ◌∷◌, ◌++◌, map, map-append}
use Prim.Native.Nat.{ℕ, ◌+◌, ◌-◌, ◌≤◌}
use native.Mathlib.Omega.{arith}
use lib.Dec.{eqb}
use lib.ListN.{length, take, drop, length-append, length-map}
use lib.Seq.{slice, take-add, length-take-le}
use Rattle.entry.specs.Entry.{entry_of}
use Rattle.definition.specs.Base.{member}
use Rattle.definition.specs.Types.{Id, Entry, Held, Audit}
use Rattle.definition.specs.Calls.{seqs, all_rows}
use Rattle.definition.specs.Layout.{Row, held_at, sub_rows}
use Rattle.definition.proofs.Tests.{or-no-left, or-no-right}
use Rattle.distinct.proofs.Laws.{member-append}
use Rattle.table.specs.Table.{holds_seq, has_seq_in}
use Rattle.table.proofs.Lists.{slice-take}
use Rattle.table.proofs.Bounds.{has_in}
use Rattle.consumers.proofs.Laws.{consumer-rows}
use Rattle.state.specs.declared.Head.{Head}
use Rattle.state.specs.State.{head_view, kind_by}
use Rattle.engine.specs.Storing.{holds}
use Rattle.engine.proofs.Insert.{entry-seq}

-- ---- a number among rows

pub holds-append : (q : ℕ) (a b : List Row) → holds q (a ++ b) ≡ (holds q a || holds q b)
holds-append q a b =
    ap (λ (l : List Entry). member q (seqs l)) (map-append entry_of a b)
    ∙ ap (member q) (map-append (λ (e : Entry). e.seq) (map entry_of a) (map entry_of b))
    ∙ member-append q (seqs (map entry_of a)) (seqs (map entry_of b))

-- by the rows' first words
pub holds-numbers : (q : ℕ) (l : List Row) → holds q l ≡ holds_seq q l
holds-numbers q [] = refl
holds-numbers q (r ∷ l) = ap₂ (λ (n : ℕ) (b : Bool). eqb q n || b) (entry-seq r) (holds-numbers q l)

pub held-part : (f t q : ℕ) (rows : List Row) → f ≤ t → t ≤ length rows → has_seq_in f t q rows ≡ holds q (slice f t rows)
held-part f t q rows h l = has_in f t q rows h l ∙ sym (holds-numbers q (slice f t rows))

-- among the first t rows: among the first f, or among those after these
module _ (f t q : ℕ) (rows : List Row) (h : f ≤ t) where
  held-either : holds q (take t rows) ≡ (holds q (take f rows) || holds q (slice f t rows))
  held-either =
      let e : t ≡ f + (t - f) = omega arith in
      ap (λ (n : ℕ). holds q (take n rows)) e
      ∙ ap (holds q) (take-add f (t - f) rows)
      ∙ holds-append q (take f rows) (take (t - f) (drop f rows))
      ∙ ap (λ (l : List Row). holds q (take f rows) || holds q l) (sym (slice-take f t rows h))

  pub held_first : holds q (take f rows) ≡ true → holds q (take t rows) ≡ true
  held_first p = held-either ∙ ap (λ (b : Bool). b || holds q (slice f t rows)) p

  pub held-last : holds q (slice f t rows) ≡ true → holds q (take t rows) ≡ true
  held-last p = held-either ∙ ap (λ (b : Bool). holds q (take f rows) || b) p ∙ or-true (holds q (take f rows))

  pub held-not-last : holds q (slice f t rows) ≡ false → holds q (take t rows) ≡ holds q (take f rows)
  held-not-last p = held-either ∙ ap (λ (b : Bool). holds q (take f rows) || b) p ∙ or-false (holds q (take f rows))

-- ---- the rows in use, in parts

pub held-entries : (l : List Row) → map (λ (h : Held). h.entry) (map held_at l) ≡ map entry_of l
held-entries [] = refl
held-entries (r ∷ l) = ap (λ (x : List Entry). entry_of r ∷ x) (held-entries l)

turned : (x y z : Bool) → (x || (y || z)) ≡ (z || (y || x))
turned true true true = refl
turned true true false = refl
turned true false true = refl
turned true false false = refl
turned false true true = refl
turned false true false = refl
turned false false true = refl
turned false false false = refl

module _ (d : Head) (subs rows : List Row) where
  abbrev n : ℕ
  n = sub_rows (take d.consumers subs)

  -- those of the consumers, reserved ones, waiting ones
  abbrev pub own_rows : List Row
  own_rows = take n rows

  abbrev pub reserved_rows : List Row
  reserved_rows = take d.reserved (drop n rows)

  abbrev pub waiting_rows : List Row
  waiting_rows = take d.waiting (drop d.reserved (drop n rows))

  pub all-rows : (producers : List Id) (audits : List Audit) → all_rows (head_view d subs rows producers audits) ≡ map entry_of (waiting_rows ++ (reserved_rows ++ own_rows))
  unfolding head_view
  all-rows producers audits =
      ap₂ (λ (x y : List Entry). map entry_of waiting_rows ++ (x ++ y)) (held-entries reserved_rows) (consumer-rows (kind_by d.queue) (take d.consumers subs) rows)
      ∙ ap (λ (x : List Entry). map entry_of waiting_rows ++ x) (sym (map-append entry_of reserved_rows own_rows))
      ∙ sym (map-append entry_of waiting_rows (reserved_rows ++ own_rows))

  module _ (e : n + (d.reserved + d.waiting) ≡ d.used) where
    pub used-rows : take d.used rows ≡ own_rows ++ (reserved_rows ++ waiting_rows)
    used-rows =
        ap (λ (m : ℕ). take m rows) (sym e)
        ∙ take-add n (d.reserved + d.waiting) rows
        ∙ ap (λ (x : List Row). own_rows ++ x) (take-add d.reserved d.waiting (drop n rows))

    -- as many
    pub all-rows-length : d.used ≤ length rows → (producers : List Id) (audits : List Audit) → length (all_rows (head_view d subs rows producers audits)) ≡ d.used
    all-rows-length h producers audits =
        let p : length (own_rows ++ (reserved_rows ++ waiting_rows)) ≡ d.used = ap length (sym used-rows) ∙ length-take-le d.used rows h in
        let q : length own_rows + (length reserved_rows + length waiting_rows) ≡ d.used = sym (length-append own_rows (reserved_rows ++ waiting_rows) ∙ ap (λ (m : ℕ). length own_rows + m) (length-append reserved_rows waiting_rows)) ∙ p in
        let r : length (waiting_rows ++ (reserved_rows ++ own_rows)) ≡ length waiting_rows + (length reserved_rows + length own_rows) = length-append waiting_rows (reserved_rows ++ own_rows) ∙ ap (λ (m : ℕ). length waiting_rows + m) (length-append reserved_rows own_rows) in
        ap length (all-rows producers audits) ∙ length-map (waiting_rows ++ (reserved_rows ++ own_rows)) entry_of ∙ omega (arith, q, r)

    -- with the same numbers
    pub all-rows-member : (q : ℕ) (producers : List Id) (audits : List Audit) → member q (seqs (all_rows (head_view d subs rows producers audits))) ≡ holds q (take d.used rows)
    all-rows-member q producers audits =
        ap (λ (l : List Entry). member q (seqs l)) (all-rows producers audits)
        ∙ holds-append q waiting_rows (reserved_rows ++ own_rows)
        ∙ ap (λ (b : Bool). holds q waiting_rows || b) (holds-append q reserved_rows own_rows)
        ∙ turned (holds q waiting_rows) (holds q reserved_rows) (holds q own_rows)
        ∙ sym (ap (holds q) used-rows ∙ holds-append q own_rows (reserved_rows ++ waiting_rows) ∙ ap (λ (b : Bool). holds q own_rows || b) (holds-append q reserved_rows waiting_rows))

    -- a number that no row in use has, none of a part has
    pub absent-parts : (q : ℕ) → holds q (take d.used rows) ≡ false → (holds q own_rows ≡ false) × (holds q reserved_rows ≡ false) × (holds q waiting_rows ≡ false)
    absent-parts q h =
        let a = sym (ap (holds q) used-rows ∙ holds-append q own_rows (reserved_rows ++ waiting_rows)) ∙ h in
        let b = sym (holds-append q reserved_rows waiting_rows) ∙ or-no-right (holds q own_rows) _ a in
        (or-no-left (holds q own_rows) _ a, or-no-left (holds q reserved_rows) _ b, or-no-right (holds q reserved_rows) _ b)
