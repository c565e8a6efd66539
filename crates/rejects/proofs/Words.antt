-- Which calls reject, by their words: no other has letters, and such a one has those of its ack. Assumes nothing.
use mathlib.Core.Path.{◌≡◌, refl, sym, ap, ◌∙◌}
use mathlib.Core.Bool.{Bool, true, false, not, ◌&&◌, true≢false}
use mathlib.Core.List.{List, []}
use mathlib.Core.Option.{Option, none, some}
use Prim.Native.Nat.{ℕ}
use borrow.Author.Tests.{eqb-true, eq-eqb, ne_eqb}
use lib.Dec.{eqb}
use Rattle.model.specs.declared.AckType.{AckType}
use Rattle.definition.specs.Base.{whether◌then◌else◌, is_some}
use Rattle.definition.specs.Types.{Dest}
use Rattle.definition.specs.Consumer.{Standard, Redelivered, Individual, Unmatched, Expired, Other, Ack, ack_type}
use Rattle.definition.specs.Calls.{Call, asking, acknowledge}
use Rattle.definition.specs.Words.{at, id_in, ack_in, ack_words, read, ranged_call, decode}
use Rattle.definition.proofs.Tests.{by-test, by-if, if-true, if-false, and_left, and_right}
use Rattle.calls.proofs.Decoded.{decoded}
use Rattle.definition_station.specs.Letters.{is_poison, rejected_by, rejected}
use Rattle.definition_station.proofs.Rejected.{Silent, silent-given, other-silent}
use Rattle.rejects.specs.Rejects.{rejecting, ack_rejected}

-- ---- the type

-- POISON is 1
pub poison-is : (k : ℕ) → is_poison (ack_type k) ≡ eqb k 1
unfolding ack_type
poison-is k =
    let no : (b : Bool) (x y : AckType) → is_poison x ≡ false → is_poison y ≡ false → is_poison (whether b then x else y) ≡ false = λ b x y p r. by-if (λ (t : AckType). is_poison t ≡ false) b x y (λ _. p) (λ _. r) in
    by-test (eqb k 0)
    (λ z. rw (z, eqb-true k 0 z))
    (λ z. rw z (by-test (eqb k 1)
    (λ o. rw o)
    (λ o. rw o (no (eqb k 2) Standard _ refl (no (eqb k 3) Redelivered _ refl (no (eqb k 4) Individual _ refl (no (eqb k 5) Unmatched _ refl (no (eqb k 6) Expired Other refl refl))))))))

-- ---- the words

module _ (code : ℕ) (ws : List ℕ) (t : Dest) where
  -- an ack that does not reject
  ack-silent : (not (ack_in ws).transacted && is_poison (ack_type (ack_in ws).type)) ≡ false → Silent t (read 4 ws)
  unfolding read rejected rejected_by
  ack-silent n = silent-given t (ack_words ws) (asking (id_in ws) (acknowledge (ack_in ws) (at 6 ws))) (if-false _ _ n)

  pub none-rejected : rejecting code ws ≡ false → rejected t (decode code ws) ≡ []
  unfolding rejecting decode
  none-rejected n = by-test (eqb code 4)
      (λ y. ap (λ (k : ℕ). rejected t (ranged_call (read k ws))) (eqb-true code 4 y) ∙ ack-silent (sym (ap (λ (b : Bool). b && (not (ack_in ws).transacted && is_poison (ack_type (ack_in ws).type))) y) ∙ n))
      (other-silent code ws t)

  -- words that are no arguments
  pub not-arguments : is_some (decode code ws) ≡ false → rejected t (decode code ws) ≡ []
  unfolding rejected
  not-arguments n = by (decode code ws) n
    where
      by : (o : Option Call) → is_some o ≡ false → rejected t o ≡ []
      by none h = refl
      by (some c) h = absurd (true≢false h)

  -- one that does
  pub ack-rejected : rejecting code ws ≡ true → is_some (decode code ws) ≡ true → rejected t (decode code ws) ≡ ack_rejected (id_in ws) (ack_in ws) t
  unfolding rejecting read rejected rejected_by
  ack-rejected y s =
      let four : code ≡ 4 = eqb-true code 4 (and_left (eqb code 4) _ y) in
      let c : Call = asking (id_in ws) (acknowledge (ack_in ws) (at 6 ws)) in
      let d = decoded 4 ws (ack_words ws) c refl (ap (λ (k : ℕ). is_some (decode k ws)) (sym four) ∙ s) in
      ap (λ (k : ℕ). rejected t (decode k ws)) four
      ∙ ap (rejected t) d.call
      ∙ if-true _ _ (and_right (eqb code 4) _ y)

-- test by test
module _ (code : ℕ) (ws : List ℕ) where
  pub not-ack : (code ≡ 4 → ⊥) → false ≡ rejecting code ws
  unfolding rejecting
  not-ack n = sym (ap (λ (b : Bool). b && (not (ack_in ws).transacted && is_poison (ack_type (ack_in ws).type))) (ne_eqb code 4 n))

  module _ (four : code ≡ 4) (a : Ack) (e : a ≡ ack_in ws) where
    pub ack-in-part : a.transacted ≡ true → false ≡ rejecting code ws
    unfolding rejecting
    ack-in-part y = rw (eq-eqb code 4 four, sym (ap (λ (x : Ack). x.transacted) e) ∙ y)

    pub ack-by-type : a.transacted ≡ false → eqb a.type 1 ≡ rejecting code ws
    unfolding rejecting
    ack-by-type n =
        let u : (ack_in ws).transacted ≡ false = sym (ap (λ (x : Ack). x.transacted) e) ∙ n in
        rw (eq-eqb code 4 four, u) (ap (λ (x : Ack). eqb x.type 1) e ∙ sym (poison-is (ack_in ws).type))
