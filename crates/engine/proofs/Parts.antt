-- A part of a call, and the dispatch after it. Assumes nothing.
use mathlib.Core.Path.{◌≡◌, sym, subst}
use mathlib.Core.Bool.{true}
use mathlib.Core.List.{List, []}
use Prim.Native.Nat.{ℕ, ◌+◌, ◌≤◌, ◌^◌}
use native.Mathlib.Omega.{arith}
use borrow.Author.Tests.{le-leb}
use lib.ListN.{length}
use Rattle.definition.specs.Types.{Id, Audit, Dest}
use Rattle.definition.specs.Destination.{Out, touch_idle, dispatch}
use Rattle.definition.specs.Calls.{clock_ok, bound}
use Rattle.definition.specs.Layout.{Row}
use Rattle.definition.proofs.Whole.{Fine}
use Rattle.definition.proofs.Ops.{touch-fine}
use Rattle.state.specs.declared.Head.{Head}
use Rattle.state.specs.State.{head_view, touched}
use Rattle.state.specs.Leaves.{silent, both, Leaves, LeavesIf}
use Rattle.state.specs.Ready.{Stands, Ready}
use Rattle.state.proofs.Leaves.{leaves-as, leaves-both, leaves-rest, leaves-when, leaves-touch}
use Rattle.state.proofs.View.{touched-mark}
use Rattle.state.proofs.Ready.{Keeps, seen, next-test}
use Rattle.dispatch.specs.Dispatch.{dispatches, Sent}
use Rattle.dispatch.proofs.Guard.{dispatches-fit}
use Rattle.engine.specs.Requests.{sent_on, Sends}

module _ (d : Head) (subs rows events : List Row) (a : Ready d subs rows events) (clock : ℕ) (late : clock ≤ 2 ^ 62)
    (f : Dest → Out) (r : Head) (subs' rows' events' : List Row) (l : Leaves f d r subs rows events subs' rows' events') (room : r.events + r.used ≤ 512)
  where
    clock-ok : clock_ok clock ≡ true
    clock-ok = le-leb clock (2 ^ 62) late

    -- then a dispatch
    module _ (x : ℕ) (few : x ≤ 65536) (k : Keeps x (seen d subs rows events a) (f (seen d subs rows events a)))
        (q : Head) (subs'' rows'' events'' : List Row)
        (p : LeavesIf (dispatches clock subs' r (length rows') (length events')) (Sent r q) (dispatch clock) r q subs' rows' events' subs'' rows'' events'')
      where
        pub then-dispatch : Leaves (both f (dispatch clock)) d q subs rows events subs'' rows'' events'' × (q.events ≤ 544)
        then-dispatch =
            let t = dispatches-fit subs' r (length rows') (length events') clock (next-test d subs rows events a f r subs' rows' events' l x few k room) clock-ok in
            let y = leaves-when _ (Sent r q) (dispatch clock) r q subs' rows' events' subs'' rows'' events'' t p in
            (leaves-both f (dispatch clock) d r q subs rows events subs' rows' events' subs'' rows'' events'' l y.0, omega (arith, y.1.1, l.consumers))

    -- `touch_idle` after it
    pub then-touch : Leaves (both f (silent (touch_idle clock))) d (touched clock r) subs rows events subs' rows' events'
    then-touch =
        let s : Stands r subs' = record { consumers = l.consumers; used = l.used; rows-used = l.rows-used } in
        leaves-both f (silent (touch_idle clock)) d r (touched clock r) subs rows events subs' rows' events' subs' rows' events' l
        (leaves-touch r subs' rows' events' s clock (omega (arith, a.long.subs-long, l.subs-length)) (omega (arith, a.long.rows_long, l.rows-length)))

    pub touch-room : (touched clock r).events + (touched clock r).used ≤ 512
    touch-room = rw (touched-mark clock r) room

    pub touch-keeps : (x : ℕ) (t : Dest) → Keeps x t (f t) → Keeps (x + 1) t (both f (silent (touch_idle clock)) t)
    touch-keeps x t k g = touch-more (touch-fine t.call_limit t.calls_used t.kind (bound t.calls_used + x) clock (f t).dest clock-ok (k g))
      where
        touch-more : Fine t.call_limit t.calls_used t.kind (bound t.calls_used + x + 1) (touch_idle clock (f t).dest) → Fine t.call_limit t.calls_used t.kind (bound t.calls_used + (x + 1)) (touch_idle clock (f t).dest)
        touch-more y = subst (λ (n : ℕ). Fine t.call_limit t.calls_used t.kind n (touch_idle clock (f t).dest)) (omega arith) y

-- a part, `touch_idle`, the dispatch
module _ (d : Head) (subs rows events : List Row) (a : Ready d subs rows events) (clock : ℕ) (late : clock ≤ 2 ^ 62)
    (f : Dest → Out) (x : ℕ) (few : x ≤ 60000) (k : (t : Dest) → Keeps x t (f t))
    (m : Head) (subs' rows' events' : List Row) (l : Leaves f d m subs rows events subs' rows' events') (room : m.events + m.used ≤ 512)
    (n : Head) (e : n ≡ touched clock m) (q : Head) (subs'' rows'' events'' : List Row)
    (p : LeavesIf (dispatches clock subs' n (length rows') (length events')) (Sent n q) (dispatch clock) n q subs' rows' events' subs'' rows'' events'')
  where
    pub then-on : Sends (sent_on clock f) d q subs rows events subs'' rows'' events''
    then-on =
        let p' = subst (λ (n : Head). LeavesIf (dispatches clock subs' n (length rows') (length events')) (Sent n q) (dispatch clock) n q subs' rows' events' subs'' rows'' events'') e p in
        let y = then-dispatch d subs rows events a clock late (both f (silent (touch_idle clock))) (touched clock m) subs' rows' events'
        (then-touch d subs rows events a clock late f m subs' rows' events' l room) (touch-room d subs rows events a clock late f m subs' rows' events' l room)
        (x + 1) (omega arith) (touch-keeps d subs rows events a clock late f m subs' rows' events' l room x (seen d subs rows events a) (k (seen d subs rows events a)))
        q subs'' rows'' events'' p' in
        (y.0, omega (arith, y.1))

-- nothing is to be done
pub rest-sends : (d : Head) (subs rows events : List Row) → Ready d subs rows events → (f : Dest → Out)
    → ((producers : List Id) (audits : List Audit) → f (head_view d subs rows producers audits) ≡ record { dest = head_view d subs rows producers audits; events = [] })
    → Sends f d d subs rows events subs rows events
rest-sends d subs rows events a f h = (
  leaves-as (silent (λ t. t)) f d d subs rows events subs rows events (λ p u e. sym (h p u)) (leaves-rest d subs rows events a.stands),
  omega (arith, a.none-sent),
)

-- a part under another name
pub sends-as : (d r : Head) (subs rows events subs' rows' events' : List Row) (f g : Dest → Out)
    → ((producers : List Id) (audits : List Audit) → f (head_view d subs rows producers audits) ≡ g (head_view d subs rows producers audits))
    → Sends f d r subs rows events subs' rows' events' → Sends g d r subs rows events subs' rows' events'
sends-as d r subs rows events subs' rows' events' f g h s = (leaves-as f g d r subs rows events subs' rows' events' (λ p u e. h p u) s.0, s.1)
