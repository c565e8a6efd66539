-- A number tested: a step of the ring at a place is a step of that audit's order, and the other audits and the producers stay. Assumes nothing.
use mathlib.Core.Path.{◌≡◌, refl, sym, ap, ap₂, ◌∙◌}
use mathlib.Core.Bool.{true, false}
use mathlib.Core.List.{List, [], ◌∷◌, ◌++◌}
use Prim.Native.Nat.{ℕ, zero, suc, ◌+◌, ◌*◌, ◌≤◌, ◌<◌}
use native.Mathlib.Omega.{arith}
use borrow.Author.Tests.{eq-eqb}
use lib.ListN.{length, take, drop, set, length-drop, take-append-drop}
use lib.Seq.{length-take-le, drop-drop}
use mir.Val.{bool_byte}
use Rattle.audit.specs.Audit.{audit_window, seen, recorded, check_and_record, Tested, order_of, ring_sound, ring_refusal, ring_step, RingLeft as RingLeft, CheckedAndRecorded}
use Rattle.audit.specs.declared.Audit as Ring
use Rattle.audit.proofs.Ring.{refusal-none, refusal-ring, step-refused, step_kept}
use Rattle.definition.specs.Types.{Audit}
use Rattle.definition.specs.Words.{at}
use Rattle.definition.specs.Layout.{id_at, ids_at, ring_at, audits_at, rings_formed}
use Rattle.definition.proofs.Tests.{by-test, and_left, and_right}
use Rattle.state.specs.declared.Head.{Head}
use Rattle.state.specs.State.{refused_as, done_as}
use Rattle.producers.specs.Groups.{written_from}
use Rattle.producers.specs.Producers.{head_left, checked_at}
use Rattle.producers.proofs.Words.{over-length, over-from, over-back}
use Rattle.producers.proofs.Groups.{oks, elems-over, oks-over}
use Rattle.producers.proofs.Tables.{audit_at, ring_ok, audits-elems, rings-oks, audit-local, ring-same, order-window}
use Rattle.producers.proofs.Adding.{ids-kept}

three-words : (l : List ℕ) → 3 ≤ length l → take 3 l ≡ at 0 l ∷ at 1 l ∷ at 2 l ∷ []
three-words [] h = absurd (omega arith)
three-words (a ∷ []) h = absurd (omega arith)
three-words (a ∷ b ∷ []) h = absurd (omega arith)
three-words (a ∷ b ∷ c ∷ l) h = refl

-- an audit that is in range, with its neighbours
pub oks-at : (k n : ℕ) (l : List ℕ) → k < n → oks audit_at ring_ok 1029 n l ≡ true → ring_ok (drop (k * 1029) l) ≡ true
oks-at k zero l h o = absurd (omega arith)
oks-at zero (suc n) l h o = let z : 0 * 1029 ≡ 0 = omega arith in rw z (and_left (ring_ok l) (oks audit_at ring_ok 1029 n (drop 1029 l)) o)
oks-at (suc k) (suc n) l h o =
    let e : 1029 + k * 1029 ≡ suc k * 1029 = omega arith in
    ap (λ (m : ℕ). ring_ok (drop m l)) (sym e) ∙ ap ring_ok (sym (drop-drop (k * 1029) 1029 l))
    ∙ oks-at k n (drop 1029 l) (omega arith) (and_right (ring_ok l) (oks audit_at ring_ok 1029 n (drop 1029 l)) o)

-- ---- the audit at a place

module _ (k n q : ℕ) (h : List ℕ) (b : k < n) (few : n ≤ 8) (long : 8347 ≤ length h) where
  abbrev pub place : ℕ
  place = 113 + k * 1029

  abbrev audits : List ℕ
  audits = drop 113 h

  abbrev pub here : List ℕ
  here = drop (k * 1029) audits

  abbrev pub ring : Ring.Audit
  ring = ring_at (drop place h)

  abbrev pub words : List ℕ
  words = take 1024 (drop (place + 5) h)

  abbrev pub step : RingLeft
  step = ring_step q ring words

  kept : CheckedAndRecorded q ring words step.checked step.words
  kept = step_kept q ring words

  here-is : drop place h ≡ here
  here-is = sym (drop-drop (k * 1029) 113 h)

  words_long : length words ≡ 1024
  words_long = length-take-le 1024 (drop (place + 5) h) (omega (arith, length-drop (place + 5) h))

  pub refused-ring : (d : Head) → ring_sound ring ≡ false → checked_at k q d h ≡ head_left (refused_as 2 d) h
  unfolding checked_at
  refused-ring d o =
      let w = words_long in
      rw (step-refused q ring words 2 (refusal-ring ring words (omega arith) o) (omega arith))

  module _ (o : ring_sound ring ≡ true) where
    accepted : ring_refusal ring words ≡ 0
    accepted = let w = words_long in refusal-none ring words (omega arith) o

    abbrev pub order : List ℕ
    order = order_of ring words

    -- the order is that of the audit
    pub order_is : (audit_at here).order ≡ order
    order_is =
        let w = words_long in
        let x : List ℕ = drop (place + 5) h in
        let e : drop 5 (drop place h) ≡ x = drop-drop 5 place h in
        ap (λ (l : List ℕ). order_of (ring_at l) (drop 5 l)) (sym here-is)
        ∙ ap (order_of ring) e
        ∙ ap (order_of ring) (sym (take-append-drop 1024 x))
        ∙ order-window ring words (drop 1024 x) o words_long

    tested-is : ◌≡◌ {A = Tested} (record { duplicate = step.checked.duplicate; order = order_of step.checked.audit step.words }) (check_and_record q order)
    tested-is = kept.order accepted

    abbrev pub after : List ℕ
    after = step.checked.audit.start ∷ step.checked.audit.count ∷ step.words

    after-long : length after ≡ 1026
    after-long = let e = kept.long in let w = words_long in omega arith

    pub checked-is : (d : Head) → checked_at k q d h ≡ head_left (done_as (bool_byte step.checked.duplicate) d) (written_from (place + 3) after h)
    unfolding checked_at
    checked-is d = rw (eq-eqb step.checked.refusal 0 (kept.refusal ∙ accepted))

    end : place + 3 + length after ≤ length h
    end = let a = after-long in omega arith

    pub checked-long : length (written_from (place + 3) after h) ≡ length h
    checked-long = over-length (place + 3) after h end

    -- the words of the audit, whole
    abbrev group : List ℕ
    group = at 0 here ∷ at 1 here ∷ at 2 here ∷ after

    group-long : length group ≡ 1029
    group-long = let a = after-long in omega arith

    audits-long : n * 1029 ≤ length audits
    audits-long = omega (arith, length-drop 113 h)

    group-over : drop 113 (written_from (place + 3) after h) ≡ written_from (k * 1029) group audits
    group-over =
        let m : ℕ = k * 1029 + 3 in
        let e : place + 3 ≡ 113 + m = omega arith in
        let a = audits-long in
        let g = after-long in
        let c : 3 ≤ length here = omega (arith, length-drop (k * 1029) audits) in
        over-from (place + 3) after h 113 m e (omega arith)
        ∙ over-back (k * 1029) 3 m after audits refl (omega arith)
        ∙ ap (λ (x : List ℕ). written_from (k * 1029) (x ++ after) audits) (three-words here c)

    pub still-ok : ring_sound step.checked.audit ≡ true
    still-ok = kept.ok ∙ o

    abbrev pub value : Audit
    value = record { producer = id_at here; order = (check_and_record q order).order }

    value-is : audit_at (group ++ drop (k * 1029 + 1029) audits) ≡ value
    value-is =
        let rest : List ℕ = drop (k * 1029 + 1029) audits in
        let w : length step.words ≡ audit_window = kept.long ∙ words_long in
        ap (λ (x : List ℕ). record { producer = id_at here; order = x }) (order-window step.checked.audit step.words rest still-ok w ∙ ap (λ (t : Tested). t.order) tested-is)

    module _ (f : oks audit_at ring_ok 1029 n audits ≡ true) where
      pub checked-audits : audits_at n (drop 113 (written_from (place + 3) after h)) ≡ set (audits_at n audits) k value
      checked-audits =
          ap (audits_at n) group-over
          ∙ audits-elems n (written_from (k * 1029) group audits)
          ∙ elems-over audit_at ring_ok 1029 audit-local ring-same k n group audits b audits-long group-long f
          ∙ ap₂ (λ (x : List Audit) (y : Audit). set x k y) (sym (audits-elems n audits)) value-is

      pub checked-formed : rings_formed n (drop 113 (written_from (place + 3) after h)) ≡ true
      checked-formed =
          ap (rings_formed n) group-over
          ∙ rings-oks n (written_from (k * 1029) group audits)
          ∙ oks-over audit_at ring_ok 1029 audit-local ring-same k n group audits b audits-long group-long f still-ok

    pub checked-ids : (m : ℕ) → m ≤ 32 → ids_at m (drop 17 (written_from (place + 3) after h)) ≡ ids_at m (drop 17 h)
    checked-ids m c = let a = after-long in ids-kept m (place + 3) after h c (omega arith) (omega arith)

    -- what the test says, and the order after it
    pub duplicate-is : step.checked.duplicate ≡ seen q order
    unfolding check_and_record
    duplicate-is = ap (λ (t : Tested). t.duplicate) tested-is ∙ by-test (seen q order) (λ e. rw e) (λ e. rw e)

    pub order-seen : seen q order ≡ true → (check_and_record q order).order ≡ order
    unfolding check_and_record
    order-seen e = rw e

    pub order-new-is : seen q order ≡ false → (check_and_record q order).order ≡ recorded q order
    unfolding check_and_record
    order-new-is e = rw e
