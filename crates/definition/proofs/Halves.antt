-- The two halves of a release make the whole of it: a dispatch does not look at how many calls are used. Assumes nothing.
use Prim.Native.Nat.{ℕ, zero, suc, ◌+◌}
use native.Mathlib.Omega.{arith}
use mathlib.Core.Path.{◌≡◌, refl, sym, ◌∙◌, ap}
use mathlib.Core.Bool.{Bool, true, false, not, ◌||◌}
use mathlib.Core.List.{List, [], ◌∷◌, ◌++◌, map}
use mathlib.Core.Option.{Option, none, some}
use lib.Dec.{eqb}
use lib.ListN.{length}
use Rattle.definition.specs.Base.{whether◌then◌else◌, keep, empty, nth}
use Rattle.definition.specs.Types.{Kind, queue, topic, Id, Entry, Sub, Dest, with_calls_used, with_pending, with_subs, with_reserved}
use Rattle.definition.specs.Consumer.{is_browser, has_credit, redelivered}
use Rattle.definition.specs.Destination.{Out, Look, look, given, Turn, visit_at, visit, scan, turns, rounds, browsers, dispatch_queue, dispatch_topic, dispatch_by, dispatch, count, reinsert, held_by, reserved_of, unmarked, return_reserved, release_reserved, due}
use Rattle.definition.specs.Calls.{Lengths, Call, unmarking, releasing, arguments_ok, perform, refusal, used, Result, call}
use Rattle.definition.specs.Words.{at, id_in, unused_from, provided, read, ranged_call, decode, call_step, step}
use Rattle.definition.specs.Claims.{Halves, ReleaseHalves}
use Rattle.definition.proofs.Tests.{if-true, if-false, by-test}
use Rattle.definition.proofs.Made.{call-accepted, none-refused}

if-map : {A B : Type 0} (f : A → B) (b : Bool) (x y : A) → f (whether b then x else y) ≡ (whether b then f x else f y)
if-map f true x y = refl
if-map f false x y = refl

-- ---- a dispatch and the calls used

module _ (n : ℕ) where
  abbrev turn_used : Turn → Turn
  turn_used r = record { took = r.took; dest = with_calls_used n r.dest; events = r.events }

  abbrev out_used : Out → Out
  out_used r = record { dest = with_calls_used n r.dest; events = r.events }

  given-used : (i : ℕ) (s : Sub) (l : Look) (t : Dest) (o : Option Entry) → given i s l (with_calls_used n t) o ≡ turn_used (given i s l t o)
  unfolding given
  given-used i s l t none = refl
  given-used i s l t (some e) = refl

  visit-used : (now i : ℕ) (t : Dest) (o : Option Sub) → visit_at now i (with_calls_used n t) o ≡ turn_used (visit_at now i t o)
  unfolding visit_at
  visit-used now i t none = refl
  visit-used now i t (some s) =
      let l = look now s s.cursor t.pending in
      ap (λ (r : Turn). whether is_browser s || not (has_credit s) then record { took = false; dest = with_calls_used n t; events = [] } else r) (given-used i s l t l.chosen)
      ∙ sym (if-map turn_used (is_browser s || not (has_credit s)) (record { took = false; dest = t; events = [] }) (given i s l t l.chosen))

  scan-used : (now : ℕ) (is : List ℕ) (t : Dest) → scan now is (with_calls_used n t) ≡ turn_used (scan now is t)
  unfolding scan visit
  scan-used now [] t = refl
  scan-used now (i ∷ is) t =
      let here = visit now i t in
      ap (λ (r : Turn). whether r.took then r else scan now is r.dest) (visit-used now i t (nth i t.subs))
      ∙ ap (λ (r : Turn). whether here.took then turn_used here else r) (scan-used now is here.dest)
      ∙ sym (if-map turn_used here.took here (scan now is here.dest))

  rounds-used : (fuel now : ℕ) (t : Dest) → rounds fuel now (with_calls_used n t) ≡ out_used (rounds fuel now t)
  unfolding rounds
  rounds-used zero now t = refl
  rounds-used (suc fuel) now t =
      let here = scan now (turns t) t in
      let later = rounds fuel now here.dest in
      let next : Out → Out = λ r. whether not here.took || empty here.dest.pending then record { dest = with_calls_used n here.dest; events = here.events } else record { dest = r.dest; events = here.events ++ r.events } in
      ap (λ (r : Turn). let later = rounds fuel now r.dest in
      whether not r.took || empty r.dest.pending then record { dest = r.dest; events = r.events } else record { dest = later.dest; events = r.events ++ later.events }) (scan-used now (turns t) t)
      ∙ ap next (rounds-used fuel now here.dest)
      ∙ sym (if-map out_used (not here.took || empty here.dest.pending) (record { dest = here.dest; events = here.events }) (record { dest = later.dest; events = here.events ++ later.events }))

  queue-used : (now : ℕ) (t : Dest) → dispatch_queue now (with_calls_used n t) ≡ out_used (dispatch_queue now t)
  unfolding dispatch_queue
  queue-used now t =
      let b = browsers now t.subs t.pending in
      let u = count b.counts (with_pending b.pending (with_subs b.subs t)) in
      let r = rounds (suc (length b.pending)) now u in
      ap (λ (r : Out). whether empty t.subs then record { dest = with_calls_used n t; events = [] } else record { dest = r.dest; events = b.events ++ r.events }) (rounds-used (suc (length b.pending)) now u)
      ∙ sym (if-map out_used (empty t.subs) (record { dest = t; events = [] }) (record { dest = r.dest; events = b.events ++ r.events }))

  pub dispatch-used : (now : ℕ) (t : Dest) (k : Kind) → dispatch_by now (with_calls_used n t) k ≡ out_used (dispatch_by now t k)
  unfolding dispatch_by dispatch_topic
  dispatch-used now t queue = queue-used now t
  dispatch-used now t topic = refl

  return-used : (now : ℕ) (i : Id) (t : Dest) → return_reserved now i (with_calls_used n (unmarked i t)) ≡ out_used (release_reserved now i t)
  unfolding return_reserved release_reserved reinsert
  return-used now i t =
      let v = reinsert now (map redelivered (reserved_of i t)) (with_reserved (keep (λ h. not (held_by i h)) t.reserved) (unmarked i t)) in
      ap (λ (r : Out). whether empty (reserved_of i t) then record { dest = with_calls_used n (unmarked i t); events = [] } else r) (dispatch-used (due now v) v v.kind)
      ∙ sym (if-map out_used (empty (reserved_of i t)) (record { dest = unmarked i t; events = [] }) (dispatch now v))

-- ---- the calls

done : (lent : Lengths) (c : Call) (t : Dest) → (call lent c t).refusal ≡ 0 → call lent c t ≡ record { refusal = 0; answer = (perform t c).answer; events = (perform t c).events; dest = used (perform t c).dest }
unfolding call
done lent c t h = if-true _ _ (ap (λ k. eqb k 0) (call-accepted lent c t h))

-- an accepted call is one whose words were right
was-call : (lent : Lengths) (t : Dest) (b : Bool) (c : Call) → (call_step lent t (ranged_call (provided b c))).refusal ≡ 0 → call_step lent t (ranged_call (provided b c)) ≡ call lent c t
unfolding provided call_step
was-call lent t true c h = by-test (arguments_ok c) (λ e. rw e) (λ e. absurd (none-refused lent t (sym (ap (λ o. (call_step lent t o).refusal) (if-false (some c) none e)) ∙ h)))
was-call lent t false c h = absurd (none-refused lent t h)

halves : (lent late : Lengths) (now : ℕ) (i : Id) (t : Dest) (first second : Result) → first ≡ call lent (unmarking i) t → second ≡ call late (releasing i now) first.dest → first.refusal ≡ 0 → second.refusal ≡ 0 → Halves now i t first second
unfolding perform
halves lent late now i t first second a b h g =
    let p = a ∙ done lent (unmarking i) t (sym (ap (λ (r : Result). r.refusal) a) ∙ h) in
    let q = b ∙ done late (releasing i now) first.dest (sym (ap (λ (r : Result). r.refusal) b) ∙ g) in
    let d : first.dest ≡ used (unmarked i t) = ap (λ (r : Result). r.dest) p in
    let w = ap (λ (u : Dest). return_reserved now i u) d ∙ return-used (t.calls_used + 1) now i t in
    let u : first.dest.calls_used ≡ t.calls_used + 1 = ap (λ (u : Dest). u.calls_used) d in
    record {
      first-answers = ap (λ (r : Result). r.answer) p;
      first-sends = ap (λ (r : Result). r.events) p;
      second-answers = ap (λ (r : Result). r.answer) q;
      second-sends = ap (λ (r : Result). r.events) q ∙ ap (λ (r : Out). r.events) w;
      leaves = ap (λ (r : Result). r.dest) q ∙ ap (λ (r : Out). used r.dest) w ∙ ap (λ n. with_calls_used n (release_reserved now i t).dest) (more t.calls_used);
    }
  where
    more : (k : ℕ) → k + 1 + 1 ≡ k + 2
    more k = omega arith

pub release-halves : ReleaseHalves
unfolding step read decode
release-halves lent words late more t e h g =
    halves lent late (at 3 more) (id_in words) t _ _
    (was-call lent t (unused_from 3 words) (unmarking (id_in words)) h)
    (was-call late (step lent 8 words t).dest (unused_from 4 more) (releasing (id_in more) (at 3 more)) g ∙ ap (λ (i : Id). call late (releasing i (at 3 more)) (step lent 8 words t).dest) e) h g
