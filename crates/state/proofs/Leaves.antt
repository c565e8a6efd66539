-- Parts of a call: nothing, one after another, `touch_idle`; and that the numbers of a sound destination fit. Assumes nothing.
use mathlib.Core.Path.{◌≡◌, refl, sym, ap, ap₂, ◌∙◌, subst, subst⁻¹}
use mathlib.Core.Bool.{Bool, true, false}
use mathlib.Core.List.{List, ◌++◌, append_assoc, append-nil, map, map-append}
use Prim.Native.Nat.{ℕ, ◌≤◌}
use native.Mathlib.Omega.{arith}
use lib.ListN.{length, take}
use Rattle.definition.specs.Types.{Id, Audit, Dest}
use Rattle.definition.specs.Destination.{Out, touch_idle}
use Rattle.definition.specs.Layout.{Row, event_words}
use Rattle.definition.proofs.Lists.{agree-later}
use Rattle.state.specs.declared.Head.{Head}
use Rattle.state.specs.State.{head_view, strict_tables, touched}
use Rattle.state.specs.Leaves.{silent, both, Leaves, LeavesIf, Untouched}
use Rattle.state.specs.Ready.{Stands}
use Rattle.state.proofs.View.{touched-mark, touch-view}

-- a part under another name that says the same of this destination
pub leaves-as : (f g : Dest → Out) (d r : Head) (subs rows events subs' rows' events' : List Row)
    → ((producers : List Id) (audits : List Audit) → length producers ≡ d.producers → f (head_view d subs rows producers audits) ≡ g (head_view d subs rows producers audits))
    → Leaves f d r subs rows events subs' rows' events' → Leaves g d r subs rows events subs' rows' events'
leaves-as f g d r subs rows events subs' rows' events' h a = record {
  view = λ p u e. a.view p u e ∙ ap (λ (x : Out). x.dest) (h p u e);
  sent = λ p u e. a.sent p u e ∙ ap (λ (x : Out). take d.events events ++ map event_words x.events) (h p u e);
  later = a.later;
  more = a.more;
  producers = a.producers;
  audits = a.audits;
  queue = a.queue;
  allowance = a.allowance;
  share = a.share;
  consumers = a.consumers;
  used = a.used;
  rows-used = a.rows-used;
  strict = a.strict;
  subs-past = a.subs-past;
  rows-past = a.rows-past;
  subs-length = a.subs-length;
  rows-length = a.rows-length;
  events-length = a.events-length;
}

-- a total function's promise where its test holds, and where it does not
module _ (test : Bool) (also : Type 0) (f : Dest → Out) (d r : Head) (subs rows events subs' rows' events' : List Row) where
  pub leaves-when : test ≡ true → LeavesIf test also f d r subs rows events subs' rows' events' → Leaves f d r subs rows events subs' rows' events' × also
  leaves-when h a = subst (λ (b : Bool). LeavesIf b also f d r subs rows events subs' rows' events') h a

  pub when-leaves : test ≡ true → Leaves f d r subs rows events subs' rows' events' × also → LeavesIf test also f d r subs rows events subs' rows' events'
  when-leaves h a = subst⁻¹ (λ (b : Bool). LeavesIf b also f d r subs rows events subs' rows' events') h a

  pub unless-touched : test ≡ false → Untouched d r subs rows events subs' rows' events' → LeavesIf test also f d r subs rows events subs' rows' events'
  unless-touched h a = subst⁻¹ (λ (b : Bool). LeavesIf b also f d r subs rows events subs' rows' events') h a

-- one part after another
module _ (f g : Dest → Out) (d r q : Head) (subs rows events subs' rows' events' subs'' rows'' events'' : List Row)
    (a : Leaves f d r subs rows events subs' rows' events')
    (b : Leaves g r q subs' rows' events' subs'' rows'' events'')
  where
    sent-both : (producers : List Id) (audits : List Audit) → length producers ≡ d.producers
        → take q.events events'' ≡ take d.events events ++ map event_words (both f g (head_view d subs rows producers audits)).events
    sent-both p u e =
        let t : Dest = head_view d subs rows p u in
        let x : List Row = take d.events events in
        let y : List Row = map event_words (f t).events in
        let z : List Row = map event_words (g (f t).dest).events in
        b.sent p u (e ∙ sym a.producers)
        ∙ ap₂ (λ (l : List Row) (v : Dest). l ++ map event_words (g v).events) (a.sent p u e) (a.view p u e)
        ∙ append_assoc x y z
        ∙ ap (λ (l : List Row). x ++ l) (sym (map-append event_words (f t).events (g (f t).dest).events))

    pub leaves-both : Leaves (both f g) d q subs rows events subs'' rows'' events''
    leaves-both = record {
      view = λ p u e. b.view p u (e ∙ sym a.producers) ∙ ap (λ (t : Dest). (g t).dest) (a.view p u e);
      sent = sent-both;
      later = b.later ∙ agree-later r.events q.events events' events b.more a.later;
      more = omega (arith, a.more, b.more);
      producers = b.producers ∙ a.producers;
      audits = b.audits ∙ a.audits;
      queue = b.queue ∙ a.queue;
      allowance = b.allowance ∙ a.allowance;
      share = b.share ∙ a.share;
      consumers = b.consumers;
      used = b.used;
      rows-used = b.rows-used;
      strict = λ h. b.strict (a.strict h);
      subs-past = b.subs-past ∙ a.subs-past;
      rows-past = b.rows-past ∙ a.rows-past;
      subs-length = b.subs-length ∙ a.subs-length;
      rows-length = b.rows-length ∙ a.rows-length;
      events-length = b.events-length ∙ a.events-length;
    }

module _ (d : Head) (subs rows events : List Row) (s : Stands d subs) where
  -- the tables as they are, with a head that has the same counts
  quiet : (f : Dest → Dest) (r : Head) → ((producers : List Id) (audits : List Audit) → length producers ≡ d.producers → head_view r subs rows producers audits ≡ f (head_view d subs rows producers audits))
      → r.events ≡ d.events → r.producers ≡ d.producers → r.audits ≡ d.audits → r.queue ≡ d.queue → r.allowance ≡ d.allowance → r.share ≡ d.share → Stands r subs
      → strict_tables r subs rows ≡ strict_tables d subs rows → Leaves (silent f) d r subs rows events subs rows events
  quiet f r v e p a q l k t w = record {
    view = v;
    sent = λ producers audits h. ap (λ (n : ℕ). take n events) e ∙ sym (append-nil (take d.events events));
    later = refl;
    more = omega (arith, e);
    producers = p;
    audits = a;
    queue = q;
    allowance = l;
    share = k;
    consumers = t.consumers;
    used = t.used;
    rows-used = t.rows-used;
    strict = λ h. w ∙ h;
    subs-past = refl;
    rows-past = refl;
    subs-length = refl;
    rows-length = refl;
    events-length = refl;
  }

  -- nothing
  pub leaves-rest : Leaves (silent (λ t. t)) d d subs rows events subs rows events
  leaves-rest = quiet (λ t. t) d (λ producers audits h. refl) refl refl refl refl refl refl s refl

  -- `touch_idle`
  pub leaves-touch : (now : ℕ) → 32 ≤ length subs → 512 ≤ length rows → Leaves (silent (touch_idle now)) d (touched now d) subs rows events subs rows events
  leaves-touch now hs hr =
      let m = touched-mark now d in
      quiet (touch_idle now) (touched now d)
      (λ producers audits h. touch-view subs rows producers audits now d (omega (arith, s.consumers)) (omega (arith, s.rows-used, s.used)) h)
      (ap (λ (x : Head). x.events) m) (ap (λ (x : Head). x.producers) m) (ap (λ (x : Head). x.audits) m) (ap (λ (x : Head). x.queue) m) (ap (λ (x : Head). x.allowance) m) (ap (λ (x : Head). x.share) m)
      (rw m (record { consumers = s.consumers; used = s.used; rows-used = s.rows-used }))
      (ap (λ (x : Head). strict_tables x subs rows) m)
