-- Turns one after the other: what the numbers may become, and what stays. Assumes nothing.
use mathlib.Core.Path.{refl, ◌∙◌}
use mathlib.Core.List.{List}
use native.Mathlib.Omega.{arith}
use Rattle.definition.specs.Layout.{Row}
use Rattle.definition.proofs.Lists.{agree-later}
use Rattle.state.specs.declared.Head.{Head}
use Rattle.queues.specs.Scan.{Onward}

pub onward-same : (d : Head) (subs rows events : List Row) → Onward d d subs rows events subs rows events
onward-same d subs rows events = record {
  consumers = refl;
  producers = refl;
  audits = refl;
  reserved = refl;
  queue = refl;
  allowance = refl;
  share = refl;
  waiting = omega arith;
  used = omega arith;
  more = omega arith;
  room = omega arith;
  expired = omega arith;
  dispatched = omega arith;
  strict = λ h. h;
  later = refl;
  subs-past = refl;
  rows-past = refl;
  subs-length = refl;
  rows-length = refl;
  events-length = refl;
}

pub onward_then : (d₀ d r : Head) (subs₀ rows₀ events₀ subs rows events subs' rows' events' : List Row)
    → Onward d₀ d subs₀ rows₀ events₀ subs rows events → Onward d r subs rows events subs' rows' events' → Onward d₀ r subs₀ rows₀ events₀ subs' rows' events'
onward_then d₀ d r subs₀ rows₀ events₀ subs rows events subs' rows' events' o p = record {
  consumers = p.consumers ∙ o.consumers;
  producers = p.producers ∙ o.producers;
  audits = p.audits ∙ o.audits;
  reserved = p.reserved ∙ o.reserved;
  queue = p.queue ∙ o.queue;
  allowance = p.allowance ∙ o.allowance;
  share = p.share ∙ o.share;
  waiting = omega arith;
  used = omega arith;
  more = omega arith;
  room = omega arith;
  expired = omega arith;
  dispatched = omega arith;
  strict = λ h. p.strict (o.strict h);
  later = p.later ∙ agree-later d.events r.events events events₀ p.more o.later;
  subs-past = p.subs-past ∙ o.subs-past;
  rows-past = p.rows-past ∙ o.rows-past;
  subs-length = p.subs-length ∙ o.subs-length;
  rows-length = p.rows-length ∙ o.rows-length;
  events-length = p.events-length ∙ o.events-length;
}
