-- No function here touches the words after the state's: what each leaves has them as they were. Assumes nothing.
use mathlib.Core.Path.{◌≡◌, ◌∙◌}
use mathlib.Core.Bool.{true, false}
use mathlib.Core.List.{List, ◌∷◌}
use Prim.Native.Nat.{ℕ, ◌+◌, ◌*◌, ◌≤◌, ◌<◌}
use native.Mathlib.Omega.{arith}
use borrow.Author.Tests.{ltb-true, leb-false}
use lib.Dec.{eqb, ltb, leb}
use lib.ListN.{length, take, drop, length-take, length-set}
use Rattle.audit.specs.Audit.{ring_step, seen, order_of, ring_refusal, place}
use Rattle.model.specs.declared.Id.{Id}
use Rattle.model.specs.Model.{id_of}
use Rattle.definition.specs.Destination.{is_producer}
use Rattle.definition.specs.Layout.{ids_at, ring_at}
use Rattle.definition.proofs.Tests.{by-test}
use Rattle.state.specs.declared.Head.{Head}
use Rattle.state.specs.State.{with_audit_count}
use Rattle.producers.specs.Groups.{has_id, stays, first_of, written_from, packed, id_words, new_words}
use Rattle.producers.specs.Producers.{head_fits, added, producer_removed, checked_at, tested, released}
use Rattle.producers.proofs.Words.{over-length, over-after}
use Rattle.producers.proofs.Removing.{packed-length, packed-after}
use Rattle.producers.proofs.Tables.{counts}

-- a step of a ring keeps the window's length
step-length : (q : ℕ) (l w : List ℕ) → length (ring_step q (ring_at l) w).words ≡ length w
unfolding ring_step
step-length q l w = by-test (eqb (ring_refusal (ring_at l) w) 0)
    (λ e. by-test (seen q (order_of (ring_at l) w)) (λ f. rw (e, f)) (λ f. rw (e, f) (length-set w (place (ring_at l)) q)))
    (λ e. rw e)

module _ (d : Head) (h : List ℕ) (f : head_fits (length h) d ≡ true) where
  pub added-past : (i : Id) → drop 8345 (added i d h).words ≡ drop 8345 h
  unfolding added
  added-past i = by-test (is_producer i (ids_at d.producers (drop 17 h)))
      (λ e. rw (f, e))
      (λ e. by-test (leb 32 d.producers)
      (λ g. rw (f, e, g))
      (λ g. rw (f, e, g) (let c = counts (length h) d f in over-after (17 + d.producers * 3) (id_words i) h 8345 (omega (arith, leb-false 32 d.producers g)) (omega (arith, c.long, leb-false 32 d.producers g)))))

  pub removed-past : (now : ℕ) (i : Id) → drop 8345 (producer_removed now i d h).words ≡ drop 8345 h
  unfolding producer_removed
  removed-past now i = rw f (
      let c = counts (length h) d f in
      let p = stays true i in
      let a : 17 + d.producers * 3 ≤ length h = omega (arith, c.long, c.producers) in
      let n : length (packed p 17 3 d.producers h) ≡ length h = packed-length p 17 3 d.producers h a in
      packed-after p 113 1029 d.audits (packed p 17 3 d.producers h) (omega (arith, n, c.long, c.audits)) 8345 (omega (arith, c.audits))
      ∙ packed-after p 17 3 d.producers h a 8345 (omega (arith, c.producers)))

  pub released-past : (conn : ℕ) → drop 8345 (released conn d h).words ≡ drop 8345 h
  unfolding released
  released-past conn = rw f (
      let c = counts (length h) d f in
      packed-after (stays false (id_of conn 0 0)) 113 1029 d.audits h (omega (arith, c.long, c.audits)) 8345 (omega (arith, c.audits)))

-- the audit at a place
checked-past : (k q : ℕ) (d : Head) (h : List ℕ) → k < 8 → 8347 ≤ length h → drop 8345 (checked_at k q d h).words ≡ drop 8345 h
unfolding checked_at
checked-past k q d h b l =
    let at : ℕ = 113 + k * 1029 in
    let w : List ℕ = take 1024 (drop (at + 5) h) in
    let s = ring_step q (ring_at (drop at h)) w in
    by-test (eqb s.checked.refusal 0)
    (λ e. rw e (
    let n : length s.words ≡ length w = step-length q (drop at h) w in
    let m : length w ≤ 1024 = omega (arith, length-take 1024 (drop (at + 5) h)) in
    over-after (at + 3) (s.checked.audit.start ∷ s.checked.audit.count ∷ s.words) h 8345 (omega arith) (omega arith)))
    (λ e. rw e)

pub tested-past : (i : Id) (q : ℕ) (d : Head) (h : List ℕ) → head_fits (length h) d ≡ true → drop 8345 (tested i q d h).words ≡ drop 8345 h
unfolding tested
tested-past i q d h f =
    let c = counts (length h) d f in
    let k : ℕ = first_of (has_id i) 1029 d.audits (drop 113 h) in
    let n : ℕ = d.audits in
    let o : List ℕ = written_from (113 + n * 1029) (new_words i) h in
    by-test (eqb i.conn 0)
    (λ e. rw (f, e))
    (λ e. by-test (ltb k n)
    (λ g. rw (f, e, g) (checked-past k q d h (omega (arith, ltb-true k n g, c.audits)) c.long))
    (λ g. by-test (leb 8 n)
    (λ j. rw (f, e, g, j))
    (λ j. rw (f, e, g, j) (
    let b : n < 8 = leb-false 8 n j in
    let s : length o ≡ length h = over-length (113 + n * 1029) (new_words i) h (omega (arith, b, c.long)) in
    checked-past n q (with_audit_count (n + 1) d) o b (omega (arith, s, c.long))
    ∙ over-after (113 + n * 1029) (new_words i) h 8345 (omega (arith, b)) (omega (arith, b, c.long))))))
