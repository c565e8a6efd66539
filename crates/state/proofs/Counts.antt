-- Counters that can rise are counted as the definitions count, and so are the calls: up to the largest u64 a sum that stops there is the plain
-- sum. Assumes nothing.
use mathlib.Core.Path.{◌≡◌, refl, ap, ◌∙◌}
use mathlib.Core.List.{List}
use Prim.Native.Nat.{ℕ, ◌+◌, ◌≤◌, ◌<◌, min}
use native.Mathlib.Omega.{arith}
use Rattle.stats.specs.declared.Stats.{Stats}
use Rattle.stats.specs.Counted.{top, more, with_enqueued, with_dequeued_by, with_expired_by, with_discarded_by, with_dispatched}
use Rattle.definition.specs.Types.{Id, Audit, Dest}
use Rattle.definition.specs.Consumer.{◌⊕◌, add_enqueued, add_dequeued, add_expired, add_discarded, add_dispatched}
use Rattle.definition.specs.Destination.{count}
use Rattle.definition.specs.Calls.{used}
use Rattle.definition.specs.Layout.{Row}
use Rattle.state.specs.declared.Head.{Head}
use Rattle.state.specs.State.{head_view, with_used_calls, with_counters}

plain : (a k : ℕ) → a + k ≤ top → min (a + k) top ≡ a + k
plain a k h = omega arith

same : (a : ℕ) → a ≡ a + 0
same a = omega arith

stats-eq : {a b c d e a' b' c' d' e' : ℕ} → a ≡ a' → b ≡ b' → c ≡ c' → d ≡ d' → e ≡ e'
    → ◌≡◌ {A = Stats} (record { enqueued = a; dequeued = b; expired = c; discarded = d; dispatched = e }) (record { enqueued = a'; dequeued = b'; expired = c'; discarded = d'; dispatched = e' })
stats-eq p q r s t = λ j. record { enqueued = p j; dequeued = q j; expired = r j; discarded = s j; dispatched = t j }

-- ---- the counters

pub enqueued-plain : (s : Stats) → s.enqueued < top → with_enqueued s ≡ s ⊕ add_enqueued 1
enqueued-plain s h = stats-eq (plain s.enqueued 1 (omega arith)) (same s.dequeued) (same s.expired) (same s.discarded) (same s.dispatched)

pub dequeued-plain : (s : Stats) (k : ℕ) → s.dequeued + k ≤ top → with_dequeued_by s k ≡ s ⊕ add_dequeued k
dequeued-plain s k h = stats-eq (same s.enqueued) (plain s.dequeued k h) (same s.expired) (same s.discarded) (same s.dispatched)

pub expired-plain : (s : Stats) (k : ℕ) → s.expired + k ≤ top → with_expired_by s k ≡ s ⊕ add_expired k
expired-plain s k h = stats-eq (same s.enqueued) (same s.dequeued) (plain s.expired k h) (same s.discarded) (same s.dispatched)

pub discarded-plain : (s : Stats) (k : ℕ) → s.discarded + k ≤ top → with_discarded_by s k ≡ s ⊕ add_discarded k
discarded-plain s k h = stats-eq (same s.enqueued) (same s.dequeued) (same s.expired) (plain s.discarded k h) (same s.dispatched)

pub dispatched-plain : (s : Stats) → s.dispatched < top → with_dispatched s ≡ s ⊕ add_dispatched 1
dispatched-plain s h = stats-eq (same s.enqueued) (same s.dequeued) (same s.expired) (same s.discarded) (plain s.dispatched 1 (omega arith))

-- ---- in the view

module _ (subs rows : List Row) (producers : List Id) (audits : List Audit) where
  abbrev viewed : Head → Dest
  viewed d = head_view d subs rows producers audits

  pub count-view : (c : Stats) (d : Head) → viewed (with_counters (d.stats ⊕ c) d) ≡ count c (viewed d)
  unfolding head_view
  count-view c d = refl

  -- the counters as they come out of a covered function
  counted-view : (s c : Stats) (d : Head) → s ≡ d.stats ⊕ c → viewed (with_counters s d) ≡ count c (viewed d)
  counted-view s c d e = ap (λ (x : Stats). viewed (with_counters x d)) e ∙ count-view c d

  pub enqueued-view : (d : Head) → d.stats.enqueued < top → viewed (with_counters (with_enqueued d.stats) d) ≡ count (add_enqueued 1) (viewed d)
  enqueued-view d h = counted-view _ _ d (enqueued-plain d.stats h)

  pub expired-view : (d : Head) (k : ℕ) → d.stats.expired + k ≤ top → viewed (with_counters (with_expired_by d.stats k) d) ≡ count (add_expired k) (viewed d)
  expired-view d k h = counted-view _ _ d (expired-plain d.stats k h)

  -- one call more
  pub used-view : (d : Head) → d.calls_used < top → viewed (with_used_calls (more d.calls_used) d) ≡ used (viewed d)
  unfolding head_view
  used-view d h = ap (λ (n : ℕ). viewed (with_used_calls n d)) (plain d.calls_used 1 (omega arith))
