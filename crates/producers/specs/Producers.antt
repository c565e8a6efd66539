-- Producers and audits in the head: what each function leaves of the numbers and of the head's words, word by word; and what it promises, that
-- this is what the definitions' call leaves. Assumes nothing.
use Rattle.std.specs.Prelude.{◌≡◌, ℕ, ◌+◌, ◌*◌, ◌≤◌, Bool, true, false, not, List, [], ◌∷◌, eqb, leb, ltb, length, take, drop}
use mir.Val.{bool_byte}
use Rattle.words.specs.Pick.{whether◌then◌else◌}
use Rattle.audit.specs.Audit.{ring_step}
use Rattle.model.specs.declared.Id.{Id}
use Rattle.model.specs.Model.{id_of}
use Rattle.definition.specs.Base.{every}
use Rattle.definition.specs.Types.{Dest}
use Rattle.definition.specs.Destination.{is_producer}
use Rattle.definition.specs.Calls.{Call, own_refusal, perform}
use Rattle.definition.specs.Layout.{Row, sub_rows, ids_at, ring_at, audits_at, rings_formed}
use Rattle.state.specs.declared.Head.{Head}
use Rattle.state.specs.Answers.{Replied}
use Rattle.state.specs.State.{head_view, with_producer_count, with_audit_count, with_idle_mark, not_idle, touched, refused_as, done_as}
use Rattle.producers.specs.Groups.{has_id, stays, first_of, kept_count, written_from, packed, id_words, new_words}

-- a head of so many words has them all, and the counts are within their tables
abbrev pub head_fits : ℕ → Head → Bool
head_fits words d = every (leb 8347 words ∷ leb d.producers 32 ∷ leb d.audits 8 ∷ [])

-- a result, and the head's words
pub record HeadLeft : Type 0 where
  pub result : Replied
  pub words : List ℕ

abbrev pub head_left : Replied → List ℕ → HeadLeft
head_left r k = record { result = r; words = k }

-- ---- word by word

unfoldable pub added : Id → Head → List ℕ → HeadLeft
added i d h =
    whether not (head_fits (length h) d) then head_left (refused_as 2 d) h
    else whether is_producer i (ids_at d.producers (drop 17 h)) then head_left (done_as 0 (not_idle d)) h
    else whether leb 32 d.producers then head_left (refused_as 8 d) h
    else head_left (done_as 0 (not_idle (with_producer_count (d.producers + 1) d))) (written_from (17 + d.producers * 3) (id_words i) h)

unfoldable pub producer_removed : ℕ → Id → Head → List ℕ → HeadLeft
producer_removed now i d h =
    let producers = kept_count (stays true i) 3 d.producers (drop 17 h) in
    let k = packed (stays true i) 17 3 d.producers h in
    let audits = kept_count (stays true i) 1029 d.audits (drop 113 k) in
    whether not (head_fits (length h) d) then head_left (refused_as 2 d) h
    else head_left (done_as 0 (touched now (with_audit_count audits (with_producer_count producers d)))) (packed (stays true i) 113 1029 d.audits k)

-- the audit at a place, checked: a step of its ring, which is refused where the ring is out of range
unfoldable pub checked_at : ℕ → ℕ → Head → List ℕ → HeadLeft
checked_at k number d h =
    let at = 113 + k * 1029 in
    let step = ring_step number (ring_at (drop at h)) (take 1024 (drop (at + 5) h)) in
    let r = step.checked in
    whether eqb r.refusal 0 then head_left (done_as (bool_byte r.duplicate) d) (written_from (at + 3) (r.audit.start ∷ r.audit.count ∷ step.words) h)
    else head_left (refused_as r.refusal d) h

unfoldable pub tested : Id → ℕ → Head → List ℕ → HeadLeft
tested i number d h =
    let k = first_of (has_id i) 1029 d.audits (drop 113 h) in
    let n = d.audits in
    whether not (head_fits (length h) d) then head_left (refused_as 2 d) h
    else whether eqb i.conn 0 then head_left (done_as 0 d) h
    else whether ltb k n then checked_at k number d h
    else whether leb 8 n then head_left (refused_as 8 d) h
    else checked_at n number (with_audit_count (n + 1) d) (written_from (113 + n * 1029) (new_words i) h)

unfoldable pub released : ℕ → Head → List ℕ → HeadLeft
released conn d h =
    let stay = stays false (id_of conn 0 0) in
    whether not (head_fits (length h) d) then head_left (refused_as 2 d) h
    else head_left (done_as 0 (with_audit_count (kept_count stay 1029 d.audits (drop 113 h)) d)) (packed stay 113 1029 d.audits h)

-- ---- as the definitions' call

-- the destination of a head's numbers and words, with tables of consumers and rows
abbrev pub head_dest : Head → List ℕ → List Row → List Row → Dest
head_dest d h subs rows = head_view d subs rows (ids_at d.producers (drop 17 h)) (audits_at d.audits (drop 113 h))

-- where the audits' rings are in range: refused as the call is, or done as the call is, on any tables that have room for the counts
pub record PerformsInHead (c : Call) (d : Head) (h : List ℕ) (r : Replied) (k : List ℕ) : Type 0 where
  pub long : length k ≡ length h
  pub others : r.head ≡ with_idle_mark r.head.idle r.head.idle_since (with_producer_count r.head.producers (with_audit_count r.head.audits d))
  pub kept : (r.refusal ≡ 0 → ⊥) → head_left r k ≡ head_left (refused_as r.refusal d) h
  pub refusal : rings_formed d.audits (drop 113 h) ≡ true → (subs rows : List Row)
      → r.refusal ≡ (whether head_fits (length h) d then own_refusal (head_dest d h subs rows) c else 2)
  pub fit : r.refusal ≡ 0 → head_fits (length k) r.head ≡ true
  pub formed : r.refusal ≡ 0 → rings_formed d.audits (drop 113 h) ≡ true → rings_formed r.head.audits (drop 113 k) ≡ true
  pub answer : r.refusal ≡ 0 → rings_formed d.audits (drop 113 h) ≡ true → (subs rows : List Row) → r.answer ≡ (perform (head_dest d h subs rows) c).answer
  pub done : r.refusal ≡ 0 → rings_formed d.audits (drop 113 h) ≡ true → (subs rows : List Row)
      → d.consumers ≤ length subs → sub_rows (take d.consumers subs) + (d.reserved + d.waiting) ≤ length rows
      → head_dest r.head k subs rows ≡ (perform (head_dest d h subs rows) c).dest

-- both
pub record Promised (c : Call) (all : HeadLeft) (d : Head) (h : List ℕ) (r : Replied) (k : List ℕ) : Type 0 where
  pub exact : head_left r k ≡ all
  pub performs : PerformsInHead c d h r k
