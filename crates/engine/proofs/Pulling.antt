-- A pull from its parts: nothing waits, or the dispatch comes between the registering and the answer. Assumes nothing.
use mathlib.Core.Path.{◌≡◌, refl, sym, ap, ◌∙◌, subst⁻¹}
use mathlib.Core.Bool.{Bool, true, false}
use mathlib.Core.List.{List, []}
use Prim.Native.Nat.{ℕ, ◌≤◌}
use native.Mathlib.Omega.{arith}
use lib.ListN.{length}
use lib.IntN.{ℤ}
use Rattle.definition.specs.Base.{whether◌then◌else◌}
use Rattle.definition.specs.Types.{Id, Audit, Dest}
use Rattle.definition.specs.Destination.{dispatch}
use Rattle.definition.specs.Destination as Def
use Rattle.definition.specs.Layout.{Row}
use Rattle.state.specs.declared.Head.{Head}
use Rattle.state.specs.Answers.{Replied}
use Rattle.state.specs.State.{head_view, done_as}
use Rattle.state.specs.Leaves.{silent, both, Leaves, LeavesIf}
use Rattle.state.specs.Ready.{Ready}
use Rattle.state.proofs.Leaves.{leaves-as, leaves-both, leaves-when}
use Rattle.pulls.specs.Pulls.{pulls, registered, answered, answered_out, OneMore, PullAnswers, stands}
use Rattle.pulls.proofs.Tested.{facts-stand}
use Rattle.engine.specs.Requests.{pull_out, Pulled}
use Rattle.engine.proofs.Asks.{pull-waits, pull-rests, registered-rests}

module _ (now : ℕ) (i : Id) (timeout : ℤ) (d : Head) (subs rows events : List Row) (a : Ready d subs rows events) where
  abbrev viewed : List Id → List Audit → Dest
  viewed p u = head_view d subs rows p u

  -- no pull waits
  pub pulled-rests : (r : Replied) (subs' : List Row) → r ≡ done_as 0 d → ((p : List Id) (u : List Audit) → pulls i (viewed p u) ≡ false)
      → Leaves (silent (registered i)) d d subs rows events subs' rows events → Pulled now i timeout d r subs rows events subs' rows events
  pulled-rests r subs' e h l = subst⁻¹ (λ (r : Replied). Pulled now i timeout d r subs rows events subs' rows events) e (record {
    refusal = refl;
    answer = λ p u n. sym (ap (λ (x : Def.Answer). x.answer) (pull-rests now i timeout (viewed p u) (h p u)));
    sends = (
      leaves-as (silent (registered i)) (pull_out now i timeout) d d subs rows events subs' rows events
          (λ p u n. ap (λ (t : Dest). record { dest = t; events = [] }) (registered-rests i (viewed p u) (h p u)) ∙ sym (ap (λ (x : Def.Answer). record { dest = x.dest; events = x.events }) (pull-rests now i timeout (viewed p u) (h p u)))) l,
      omega (arith, a.none-sent),
    );
  })

  -- a pull waits
  module _ (h : (p : List Id) (u : List Audit) → pulls i (viewed p u) ≡ true)
      (m : Head) (subs' rows' events' : List Row) (l : Leaves (both (silent (registered i)) (dispatch now)) d m subs rows events subs' rows' events') (few : m.events ≤ 544)
      (r : Replied) (subs'' events'' : List Row)
      (y : LeavesIf (stands subs' m (length rows') (length events')) (OneMore m r.head) (answered_out i timeout) m r.head subs' rows' events' subs'' rows' events'')
      (z : PullAnswers (stands subs' m (length rows') (length events')) i timeout m subs' rows' r)
    where
      stand : stands subs' m (length rows') (length events') ≡ true
      stand = facts-stand subs' m (length rows') (length events')
          (record { subs-long = omega (arith, l.subs-length, a.long.subs-long); consumers = l.consumers; used = l.used; rows-used = l.rows-used })
          (omega (arith, l.rows-length, a.long.rows_long)) (omega (arith, l.events-length, a.long.events-long))

      pub pulled-waits : Pulled now i timeout d r subs rows events subs'' rows' events''
      pulled-waits =
          let w = leaves-when (stands subs' m (length rows') (length events')) (OneMore m r.head) (answered_out i timeout) m r.head subs' rows' events' subs'' rows' events'' stand y in
          record {
            refusal = z.refusal ∙ ap (λ (b : Bool). whether◌then◌else◌ {A = ℕ} b 0 2) stand;
            answer = λ p u n.
                z.answer p u
                ∙ ap (λ (b : Bool). whether b then (answered i timeout (head_view m subs' rows' p u)).answer else 0) stand
                ∙ ap (λ (t : Dest). (answered i timeout t).answer) (l.view p u n)
                ∙ sym (ap (λ (x : Def.Answer). x.answer) (pull-waits now i timeout (viewed p u) (h p u)));
            sends = (
              leaves-as (both (both (silent (registered i)) (dispatch now)) (answered_out i timeout)) (pull_out now i timeout) d r.head subs rows events subs'' rows' events''
                  (λ p u n. sym (ap (λ (x : Def.Answer). record { dest = x.dest; events = x.events }) (pull-waits now i timeout (viewed p u) (h p u))))
                  (leaves-both (both (silent (registered i)) (dispatch now)) (answered_out i timeout) d m r.head subs rows events subs' rows' events' subs'' rows' events'' l w.0),
              omega (arith, w.1.few),
            );
          }
