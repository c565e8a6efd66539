-- What an acknowledgement takes of the reserved entries by its rule is what it takes by its type. Assumes nothing.
use mathlib.Core.Path.{◌≡◌, refl, sym, ap, ◌∙◌}
use mathlib.Core.Bool.{Bool, false, not, ◌&&◌, and_comm, and-true, and-false}
use mathlib.Core.List.{List, [], ◌∷◌, map}
use mathlib.Core.Option.{Option, none, some}
use Prim.Native.Nat.{ℕ}
use native.Mathlib.Omega.{arith}
use borrow.Author.Tests.{le-leb}
use lib.Dec.{leb}
use lib.ListN.{length}
use Rattle.model.specs.declared.AckRange.{AckRange}
use Rattle.model.specs.declared.AckRange.TheVariants.{Empty}
use Rattle.model.specs.declared.AckRule.{AckRule}
use Rattle.model.specs.Model.{rule_of, ack_rule}
use Rattle.definition.specs.Base.{keep}
use Rattle.definition.specs.Types.{Id, Entry, Held, Dest, with_reserved}
use Rattle.definition.specs.Consumer.{AckType, Delivered, Poison, Standard, Redelivered, Individual, Unmatched, Expired, Other, ack_type, Ack, or0, add_dequeued}
use Rattle.definition.specs.Destination.{count, held_by, reserved_of, at_least, reserved_hit, reserved_counts, reserved_events, ack_reserved}
use Rattle.definition.proofs.Tests.{by-test}
use Rattle.table.proofs.Segments.{keep-map}
use Rattle.acks.specs.Rules.{no_span, in_numbers}
use Rattle.acks.proofs.Rules.{none_in, both_ways}
use Rattle.reserved.specs.Reserved.{wants, wanted_of, taken_counts, taken_events, taking}

-- ---- which

between : (first : Option ℕ) (n last : ℕ) → (leb (or0 first) n && leb n last) ≡ (leb n last && at_least first n)
between none n last = ap (λ (b : Bool). b && leb n last) (le-leb 0 n (omega arith)) ∙ sym (and-true (leb n last))
between (some f) n last = and_comm (leb f n) (leb n last)

up_to : (n last : ℕ) → (leb 0 n && leb n last) ≡ leb n last
up_to n last = ap (λ (b : Bool). b && leb n last) (le-leb 0 n (omega arith))

hits : (t : AckType) (first : Option ℕ) (last : ℕ) (e : Entry) → in_numbers (wanted_of (rule_of t).reserved first last) e.seq ≡ reserved_hit first last e t
unfolding reserved_hit
hits Delivered first last e = none_in e.seq
hits Poison first last e = between first e.seq last
hits Standard first last e = up_to e.seq last
hits Redelivered first last e = none_in e.seq
hits Individual first last e = both_ways e.seq last
hits Unmatched first last e = up_to e.seq last
hits Expired first last e = between first e.seq last
hits Other first last e = none_in e.seq

-- ---- what they count as

counts-by : (t : AckType) (x : List Entry) → ((rule_of t).reserved ≡ Empty → x ≡ []) → taken_counts (rule_of t).counts x ≡ reserved_counts x t
unfolding reserved_counts
counts-by Delivered x h = sym (ap (λ (y : List Entry). add_dequeued (length y)) (h refl))
counts-by Poison x h = refl
counts-by Standard x h = refl
counts-by Redelivered x h = sym (ap (λ (y : List Entry). add_dequeued (length y)) (h refl))
counts-by Individual x h = refl
counts-by Unmatched x h = refl
counts-by Expired x h = refl
counts-by Other x h = sym (ap (λ (y : List Entry). add_dequeued (length y)) (h refl))

events-by : (t : AckType) (x : List Entry) → taken_events (rule_of t).counts x ≡ reserved_events x t
unfolding reserved_events
events-by Delivered x = refl
events-by Poison x = refl
events-by Standard x = refl
events-by Redelivered x = refl
events-by Individual x = refl
events-by Unmatched x = refl
events-by Expired x = refl
events-by Other x = refl

-- ---- lists

module _ {A : Type 0} where
  pub keep-keep : (p q : A → Bool) (l : List A) → keep p (keep q l) ≡ keep (λ x. q x && p x) l
  keep-keep p q [] = refl
  keep-keep p q (x ∷ l) = by-test (q x)
      (λ t. by-test (p x) (λ u. rw (t, u) (ap (λ (m : List A). x ∷ m) (keep-keep p q l))) (λ u. rw (t, u) (keep-keep p q l)))
      (λ t. rw t (keep-keep p q l))

  keep-none : (p : A → Bool) (l : List A) → ((x : A) → p x ≡ false) → keep p l ≡ []
  keep-none p [] h = refl
  keep-none p (x ∷ l) h = rw (h x) (keep-none p l h)

-- ---- all

module _ (id : Id) (a : Ack) (t : Dest) (last : ℕ) where
  abbrev hit : AckType → Held → Bool
  hit ty h = held_by id h && reserved_hit a.first last h.entry ty

  abbrev entries : (Held → Bool) → List Entry
  entries q = map (λ (h : Held). h.entry) (keep q t.reserved)

  wants_is : (ty : AckType) → wants id (wanted_of (rule_of ty).reserved a.first last) ≡ hit ty
  wants_is ty = λ j h. held_by id h && hits ty a.first last h.entry j

  taken_is : (ty : AckType) → keep (λ e. reserved_hit a.first last e ty) (entries (held_by id)) ≡ entries (hit ty)
  taken_is ty =
      keep-map (λ (h : Held). h.entry) (λ e. reserved_hit a.first last e ty) (keep (held_by id) t.reserved)
      ∙ ap (map (λ (h : Held). h.entry)) (keep-keep (λ h. reserved_hit a.first last h.entry ty) (held_by id) t.reserved)

  none-taken : (ty : AckType) → (rule_of ty).reserved ≡ Empty → entries (wants id (wanted_of (rule_of ty).reserved a.first last)) ≡ []
  none-taken ty e =
      ap (λ (r : AckRange). entries (wants id (wanted_of r a.first last))) e
      ∙ ap (map (λ (h : Held). h.entry)) (keep-none (wants id no_span) t.reserved (λ h. ap (λ (b : Bool). held_by id h && b) (none_in h.entry.seq) ∙ and-false (held_by id h)))

  -- what it takes by the span
  pub taken-by : (ty : AckType) → entries (wants id (wanted_of (rule_of ty).reserved a.first last)) ≡ keep (λ e. reserved_hit a.first last e ty) (reserved_of id t)
  taken-by ty = ap entries (wants_is ty) ∙ sym (taken_is ty)

  by-type : (ty : AckType) → taking id (rule_of ty).counts (wanted_of (rule_of ty).reserved a.first last) t
      ≡ record {
        dest = count (reserved_counts (keep (λ e. reserved_hit a.first last e ty) (entries (held_by id))) ty) (with_reserved (keep (λ h. not (hit ty h)) t.reserved) t);
        events = reserved_events (keep (λ e. reserved_hit a.first last e ty) (entries (held_by id))) ty;
      }
  unfolding taking
  by-type ty =
      let q : Held → Bool = wants id (wanted_of (rule_of ty).reserved a.first last) in
      let w : q ≡ hit ty = wants_is ty in
      let x : entries q ≡ keep (λ e. reserved_hit a.first last e ty) (entries (held_by id)) = taken-by ty in
      let c : taken_counts (rule_of ty).counts (entries q) ≡ reserved_counts (keep (λ e. reserved_hit a.first last e ty) (entries (held_by id))) ty =
      counts-by ty (entries q) (none-taken ty) ∙ ap (λ (l : List Entry). reserved_counts l ty) x in
      let e : taken_events (rule_of ty).counts (entries q) ≡ reserved_events (keep (λ e. reserved_hit a.first last e ty) (entries (held_by id))) ty =
      events-by ty (entries q) ∙ ap (λ (l : List Entry). reserved_events l ty) x in
      λ j. record { dest = count (c j) (with_reserved (keep (λ h. not (w j h)) t.reserved) t); events = e j }

  pub takes-reserved : (r : AckRule) → r ≡ ack_rule a.type → taking id r.counts (wanted_of r.reserved a.first last) t ≡ ack_reserved id a t (some last)
  unfolding ack_rule ack_reserved
  takes-reserved r e = ap (λ (x : AckRule). taking id x.counts (wanted_of x.reserved a.first last) t) e ∙ by-type (ack_type a.type)
