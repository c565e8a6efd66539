-- An acknowledgement by its rule is the acknowledgement by its type: the delivery numbers that it means, and what becomes of what has them.
-- Assumes nothing.
use mathlib.Core.Path.{◌≡◌, refl, sym, ap, ap₂, ◌∙◌}
use mathlib.Core.Bool.{Bool, true, false, ◌&&◌, and-false}
use mathlib.Core.List.{List, []}
use mathlib.Core.Option.{Option, none, some}
use Prim.Native.Nat.{ℕ, ◌≤◌, ◌<◌, min}
use native.Mathlib.Omega.{arith}
use borrow.Author.Tests.{leb-true, leb-false, lt-leb, eq-eqb, ne_eqb}
use lib.Dec.{leb, eqb}
use Rattle.model.specs.declared.AckEffect.{AckEffect}
use Rattle.model.specs.declared.AckRange.{AckRange}
use Rattle.model.specs.declared.AckRange.TheVariants.{Empty, Between, Cumulative, Last}
use Rattle.model.specs.declared.AckRule.{AckRule}
use Rattle.model.specs.Model.{rule_of, ack_rule}
use Rattle.definition.specs.Base.{whether◌then◌else◌}
use Rattle.definition.specs.Types.{Inflight, Sub, Event}
use Rattle.definition.specs.Consumer.{AckType, Delivered, Poison, Standard, Redelivered, Individual, Unmatched, Expired, Other, ack_type, Ack, Step, is_browser, by_seq, or0, ranged, is_dseq, ack_range, ack_last, ack_transacted, ack_plain, ack_sub}
use Rattle.definition.proofs.Tests.{by-test, if-true, if-false}
use Rattle.acks.specs.Rules.{span_of, in_span, acts}

-- ---- which

pub none_in : (n : ℕ) → (leb 1 n && leb n 0) ≡ false
none_in n = by-test (leb n 0)
    (λ t. let h : n ≤ 0 = leb-true n 0 t in rw (lt-leb 1 n (omega arith)))
    (λ t. rw t (and-false (leb 1 n)))

pub both_ways : (n k : ℕ) → (leb k n && leb n k) ≡ eqb n k
both_ways n k = by-test (leb k n)
    (λ t. by-test (leb n k)
    (λ u. let h : n ≡ k = omega (arith, leb-true k n t, leb-true n k u) in rw (t, u) (sym (eq-eqb n k h)))
    (λ u. let h : k < n = leb-false n k u in rw (t, u) (sym (ne_eqb n k (λ e. omega arith)))))
    (λ t. let h : n < k = leb-false k n t in rw t (sym (ne_eqb n k (λ e. omega arith))))

-- the test of a range, by the delivery numbers of the first and the last
abbrev tested : AckRange → Option ℕ → Inflight → Option ℕ → Bool
tested Empty f i o = false
tested Between f i o = ranged f i o
tested Cumulative f i o = ranged none i o
tested Last f i o = is_dseq i o

span-tests : (range : AckRange) (f o : Option ℕ) (i : Inflight) → in_span (span_of range (or0 f) o) i ≡ tested range f i o
span-tests Empty f none i = none_in i.dseq
span-tests Empty f (some k) i = none_in i.dseq
span-tests Between f none i = none_in i.dseq
span-tests Between f (some k) i = refl
span-tests Cumulative f none i = none_in i.dseq
span-tests Cumulative f (some k) i = let e : min 0 k ≡ 0 = omega arith in ap (λ (n : ℕ). leb n i.dseq && leb i.dseq k) (sym e)
span-tests Last f none i = none_in i.dseq
span-tests Last f (some k) i = both_ways i.dseq k

-- ---- what

module _ (a : Ack) (s : Sub) where
  abbrev meant : AckRange → Inflight → Bool
  meant range i = tested range (by_seq s a.first) i (by_seq s a.last)

  same_if : (b : Bool) → (whether◌then◌else◌ {A = List Event} b [] []) ≡ []
  same_if true = refl
  same_if false = refl

  quiet : (x : Step) → x.events ≡ [] → x ≡ record { sub = x.sub; counts = x.counts; events = [] }
  quiet x e = λ j. record { sub = x.sub; counts = x.counts; events = e j }

  -- outside a transaction, type by type
  plain : (t : AckType) → acts (rule_of t).effect (rule_of t).counts a.cause (meant (rule_of t).range) s ≡ ack_plain a s t
  unfolding acts ack_plain ack_range ack_last
  plain Delivered = refl
  plain Poison = refl
  plain Standard = quiet _ (same_if (is_browser s))
  plain Redelivered = refl
  plain Individual = quiet _ (same_if (is_browser s))
  plain Unmatched = quiet _ (same_if (is_browser s))
  plain Expired = quiet _ (same_if (is_browser s))
  plain Other = refl

  -- and in one
  transacted : (t : AckType) → acts (rule_of t).tx_effect (rule_of t).counts a.cause (meant (rule_of t).tx_range) s ≡ record { sub = ack_transacted a s t; counts = record { enqueued = 0; dequeued = 0; expired = 0; discarded = 0; dispatched = 0 }; events = [] }
  unfolding acts ack_transacted ack_range ack_last
  transacted Delivered = refl
  transacted Poison = refl
  transacted Standard = refl
  transacted Redelivered = refl
  transacted Individual = refl
  transacted Unmatched = refl
  transacted Expired = refl
  transacted Other = refl

  spans : (range : AckRange) → in_span (span_of range (or0 (by_seq s a.first)) (by_seq s a.last)) ≡ meant range
  spans range = λ j i. span-tests range (by_seq s a.first) (by_seq s a.last) i j

  -- those from its first to its last
  pub spans-between : in_span (span_of Between (or0 (by_seq s a.first)) (by_seq s a.last)) ≡ ack_range s a false
  unfolding ack_range
  spans-between = spans Between

  pub acts-plain : (r : AckRule) → r ≡ ack_rule a.type → a.transacted ≡ false
      → acts r.effect r.counts a.cause (in_span (span_of r.range (or0 (by_seq s a.first)) (by_seq s a.last))) s ≡ ack_sub a s
  unfolding ack_rule ack_sub
  acts-plain r e f =
      ap (λ (h : Inflight → Bool). acts r.effect r.counts a.cause h s) (spans r.range)
      ∙ ap (λ (x : AckRule). acts x.effect x.counts a.cause (meant x.range) s) e
      ∙ plain (ack_type a.type)
      ∙ sym (if-false _ _ f)

  pub acts-transacted : (r : AckRule) → r ≡ ack_rule a.type → a.transacted ≡ true
      → acts r.tx_effect r.counts a.cause (in_span (span_of r.tx_range (or0 (by_seq s a.first)) (by_seq s a.last))) s ≡ ack_sub a s
  unfolding ack_rule ack_sub
  acts-transacted r e f =
      ap (λ (h : Inflight → Bool). acts r.tx_effect r.counts a.cause h s) (spans r.tx_range)
      ∙ ap (λ (x : AckRule). acts x.tx_effect x.counts a.cause (meant x.tx_range) s) e
      ∙ transacted (ack_type a.type)
      ∙ sym (if-true _ _ f)

  -- outside a transaction or in one
  pub acts-either : (r : AckRule) → r ≡ ack_rule a.type → (range : AckRange) (effect : AckEffect)
      → range ≡ (whether a.transacted then r.tx_range else r.range) → effect ≡ (whether a.transacted then r.tx_effect else r.effect)
      → acts effect r.counts a.cause (in_span (span_of range (or0 (by_seq s a.first)) (by_seq s a.last))) s ≡ ack_sub a s
  acts-either r e range effect p q =
      let by : AckRange → AckEffect → Step = λ x y. acts y r.counts a.cause (in_span (span_of x (or0 (by_seq s a.first)) (by_seq s a.last))) s in
      by-test a.transacted
      (λ t. ap₂ by (p ∙ if-true _ _ t) (q ∙ if-true _ _ t) ∙ acts-transacted r e t)
      (λ t. ap₂ by (p ∙ if-false _ _ t) (q ∙ if-false _ _ t) ∙ acts-plain r e t)
