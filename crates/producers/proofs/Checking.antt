-- The audit at a place, with its window lent to `check_and_record`: what the stores leave is `checked_at`. Assumes nothing.
use mathlib.Core.Path.{◌≡◌, refl, sym, ap, ap₂, ◌∙◌}
use mathlib.Core.Bool.{Bool, true, false}
use mathlib.Core.List.{List, [], ◌∷◌, ◌++◌}
use Prim.Native.Nat.{ℕ, ◌+◌, ◌-◌, ◌*◌, ◌≤◌, ◌<◌}
use native.Mathlib.Nat.{pos_of_ne-zero}
use native.Mathlib.Omega.{arith}
use borrow.Author.Tests.{eq-eqb, ne_eqb}
use lib.ListN.{length, take, drop, get_or, set, length-drop, take-append-drop}
use lib.Seq.{length-take-le, get_or-drop}
use mir.Val.{bool_byte}
use Rattle.audit.specs.Audit.{ring_sound, ring_refusal, ring_step, RingLeft as RingLeft}
use Rattle.audit.specs.declared.Audit as Ring
use Rattle.audit.specs.declared.Checked as Checked
use Rattle.audit.proofs.Ring.{refusal-none, refusal-ring, step-refused, step_kept}
use Rattle.definition.specs.Layout.{ring_at}
use Rattle.state.specs.declared.Head.{Head}
use Rattle.state.specs.Answers.{Replied}
use Rattle.state.specs.State.{refused_as, done_as}
use Rattle.producers.specs.Groups.{written_from}
use Rattle.producers.specs.Producers.{head_left, checked_at}
use Rattle.producers.proofs.Words.{over-length, lent-over, over-join-before, two-stores}

module _ (k q : ℕ) (d : Head) (h : List ℕ) (b : k < 8) (long : 8347 ≤ length h) (r : Checked.Checked) (v : List ℕ) where
  abbrev place : ℕ
  place = 113 + k * 1029

  abbrev size : ℕ
  size = place + 1029 - (place + 5)

  abbrev ring : Ring.Audit
  ring = ring_at (drop place h)

  abbrev window : List ℕ
  window = take 1024 (drop (place + 5) h)

  -- as the code reads the ring and lends the window
  module _ (e : ◌≡◌ {A = RingLeft} (record { checked = r; words = v }) (ring_step q (record { start = get_or h (place + 3) 0; count = get_or h (place + 4) 0 }) (take size (drop (place + 5) h)))) where
    size_is : size ≡ 1024
    size_is = omega arith

    step_is : ring_step q ring window ≡ record { checked = r; words = v }
    step_is = sym (e ∙ ap₂ (λ (a : Ring.Audit) (n : ℕ). ring_step q a (take n (drop (place + 5) h))) (rw (get_or-drop place h 3 0, get_or-drop place h 4 0)) size_is)

    window-long : length window ≡ 1024
    window-long = length-take-le 1024 (drop (place + 5) h) (omega (arith, length-drop (place + 5) h))

    left-long : length v ≡ 1024
    left-long = sym (ap (λ (s : RingLeft). length s.words) step_is) ∙ (step_kept q ring window).long ∙ window-long

    abbrev back : List ℕ
    back = take (place + 5) h ++ (v ++ drop size (drop (place + 5) h))

    back_is : back ≡ written_from (place + 5) v h
    back_is = lent-over (place + 5) 1024 size v h size_is left-long

    -- the window is long, so that a refusal is for a ring out of range
    ring-refused : (t : Bool) → ring_sound ring ≡ t → (ring_refusal ring window ≡ 0 → ⊥) → ring_refusal ring window ≡ 2
    ring-refused true o n = absurd (n (refusal-none ring window (omega (arith, window-long)) o))
    ring-refused false o n = refusal-ring ring window (omega (arith, window-long)) o

    -- refused: nothing has changed
    pub refused-at : (x : Replied) → x ≡ refused_as 2 d → (r.refusal ≡ 0 → ⊥) → head_left x back ≡ checked_at k q d h
    unfolding checked_at
    refused-at x y n =
        let f : ring_refusal ring window ≡ r.refusal = sym (step_kept q ring window).refusal ∙ ap (λ (s : RingLeft). s.checked.refusal) step_is in
        let two : r.refusal ≡ 2 = sym f ∙ ring-refused (ring_sound ring) refl (λ z. n (sym f ∙ z)) in
        let w : v ≡ window = sym (ap (λ (s : RingLeft). s.words) step_is) ∙ ap (λ (s : RingLeft). s.words) (step-refused q ring window r.refusal f (pos_of_ne-zero n)) in
        let same : back ≡ h = ap₂ (λ (x : List ℕ) (m : ℕ). take (place + 5) h ++ (x ++ drop m (drop (place + 5) h))) w size_is
        ∙ ap (λ (x : List ℕ). take (place + 5) h ++ x) (take-append-drop 1024 (drop (place + 5) h)) ∙ take-append-drop (place + 5) h in
        rw (step_is, ne_eqb r.refusal 0 n) (ap₂ head_left (y ∙ ap (λ (m : ℕ). refused_as m d) (sym two)) same)

    pub accepted-at : (x : Replied) → x ≡ done_as (bool_byte r.duplicate) d → r.refusal ≡ 0 → head_left x (set (set back (place + 3) r.audit.start) (place + 4) r.audit.count) ≡ checked_at k q d h
    unfolding checked_at
    accepted-at x y z =
        let s : ℕ = r.audit.start in
        let c : ℕ = r.audit.count in
        let l : length (written_from (place + 5) v h) ≡ length h = over-length (place + 5) v h (omega (arith, left-long)) in
        let p : place + 4 ≡ place + 3 + 1 = omega arith in
        let t : place + 3 + 2 ≤ length (written_from (place + 5) v h) = omega arith in
        let j : place + 3 + 2 ≡ place + 5 = omega arith in
        let w : set (set back (place + 3) s) (place + 4) c ≡ written_from (place + 3) (s ∷ c ∷ v) h =
        ap (λ (x : List ℕ). set (set x (place + 3) s) (place + 4) c) back_is
        ∙ two-stores (written_from (place + 5) v h) (place + 3) (place + 3) (place + 4) s c refl p t
        ∙ over-join-before (place + 3) (place + 5) (s ∷ c ∷ []) v h j (omega (arith, left-long)) in
        rw (step_is, eq-eqb r.refusal 0 z) (ap₂ head_left y w)
