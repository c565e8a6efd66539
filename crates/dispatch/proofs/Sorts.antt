-- A dispatch by the destination's kind, and a queue's by its browsers. Assumes nothing.
use mathlib.Core.Path.{◌≡◌, refl, sym, ap₂, subst, ◌∙◌}
use mathlib.Core.Bool.{Bool, true, false, not, ◌&&◌, and-true, true≢false}
use mathlib.Core.List.{List}
use Prim.Native.Nat.{ℕ, ◌≤◌, ◌<◌, ◌^◌}
use native.Mathlib.Omega.{arith}
use borrow.Author.Tests.{le-leb}
use lib.Dec.{leb}
use lib.ListN.{length}
use Rattle.words.proofs.Tests.{by-test}
use Rattle.definition.specs.Types.{Id, Audit, Dest}
use Rattle.definition.specs.Destination.{Out, dispatch_queue, dispatch_topic, dispatch_by, dispatch}
use Rattle.definition.specs.Layout.{Row}
use Rattle.consumers.specs.Consumers.{row_sub}
use Rattle.state.specs.declared.Head.{Head}
use Rattle.state.specs.State.{head_view, kind_by, due_by}
use Rattle.state.specs.Fits.{fits}
use Rattle.state.specs.Leaves.{Leaves, LeavesIf}
use Rattle.state.proofs.Leaves.{leaves-as, when-leaves}
use Rattle.state.proofs.Answers.{leaves-no}
use Rattle.topics.specs.Topics.{Dispatched}
use Rattle.queues.specs.Scan.{served, scans, Scans, Onward}
use Rattle.queues.proofs.Guard.{scans-facts}
use Rattle.dispatch.specs.Dispatch.{browses, queue_fits, dispatches, Sent}
use Rattle.dispatch.proofs.Guard.{one_none, queue-shows, queue-scans, queue-stands, dispatches-queue, dispatches-topic}
use Rattle.dispatch.proofs.Queue.{queue-none, queue-alone}

module _ (d r : Head) (subs rows events subs' rows' events' : List Row) where
  -- a part for another, by a test that is the same
  turned : (a b : Bool) (also other : Type 0) (f g : Dest → Out) → a ≡ b
      → (a ≡ true → Leaves f d r subs rows events subs' rows' events' × also → Leaves g d r subs rows events subs' rows' events' × other)
      → LeavesIf a also f d r subs rows events subs' rows' events' → LeavesIf b other g d r subs rows events subs' rows' events'
  turned true true also other f g e k l = k refl l
  turned true false also other f g e k l = absurd (true≢false e)
  turned false true also other f g e k l = absurd (true≢false (sym e))
  turned false false also other f g e k l = l

  -- a queue's
  module _ (clock : ℕ) where
    abbrev can : Bool
    can = queue_fits clock subs d (length rows) (length events)

    pub with-browser : browses d.consumers subs ≡ true → LeavesIf (fits subs d (length rows) (length events)) (Sent d r) (dispatch_queue clock) d r subs rows events subs' rows' events'
        → LeavesIf can (Sent d r) (dispatch_queue clock) d r subs rows events subs' rows' events'
    with-browser b l = subst (λ (t : Bool). LeavesIf t (Sent d r) (dispatch_queue clock) d r subs rows events subs' rows' events') (queue-shows subs d (length rows) (length events) clock b) l

    pub without-browser : 0 < d.consumers → browses d.consumers subs ≡ false
        → LeavesIf (scans clock subs d (length rows) (length events)) (Onward d r subs rows events subs' rows' events') (served clock) d r subs rows events subs' rows' events'
        → LeavesIf can (Sent d r) (dispatch_queue clock) d r subs rows events subs' rows' events'
    unfolding browses
    without-browser some b l = turned (scans clock subs d (length rows) (length events)) can (Onward d r subs rows events subs' rows' events') (Sent d r) (served clock) (dispatch_queue clock)
        (queue-scans subs d (length rows) (length events) clock b)
        (λ y z.
        let ok : Scans subs d (length rows) (length events) = (scans-facts clock subs d (length rows) (length events) y).0 in
        let short : d.consumers ≤ length subs = omega (arith, ok.consumers, ok.subs-long) in
        queue-alone clock d r subs rows events subs' rows' events' some short (one_none (λ w. (row_sub w).browser) d.consumers subs short b) ok z)
        l

  -- due is what entries expire by at the clock
  module _ (clock due : ℕ) (is : due ≡ due_by clock d) (late : clock ≤ 2 ^ 62) where
    abbrev yes : Bool
    yes = dispatches clock subs d (length rows) (length events)

    by_kind : (b : Bool) → d.queue ≡ b → (p : List Id) (u : List Audit) → dispatch_by due (head_view d subs rows p u) (kind_by b) ≡ dispatch clock (head_view d subs rows p u)
    unfolding head_view
    by_kind b e p u = ap₂ (λ (n : ℕ) (q : Bool). dispatch_by n (head_view d subs rows p u) (kind_by q)) is (sym e)

    pub of-queue : d.queue ≡ true → LeavesIf (queue_fits due subs d (length rows) (length events)) (Sent d r) (dispatch_queue due) d r subs rows events subs' rows' events'
        → LeavesIf yes (Sent d r) (dispatch clock) d r subs rows events subs' rows' events'
    unfolding dispatch_by
    of-queue e l = turned (queue_fits due subs d (length rows) (length events)) yes (Sent d r) (Sent d r) (dispatch_queue due) (dispatch clock)
        (dispatches-queue subs d (length rows) (length events) clock late due is e)
        (λ _ y. (leaves-as (dispatch_queue due) (dispatch clock) d r subs rows events subs' rows' events' (λ p u h. by_kind true e p u) y.0, y.1)) l

    -- a topic's own test is the same
    topic-test : d.queue ≡ false → (fits subs d (length rows) (length events) && (leb due (2 ^ 62) && not d.queue)) ≡ yes
    topic-test e =
        let a : Bool = fits subs d (length rows) (length events) in
        ap₂ (λ (b c : Bool). a && (b && not c)) (le-leb due (2 ^ 62) (omega (arith, is))) e ∙ and-true a ∙ dispatches-topic subs d (length rows) (length events) clock late e

    pub of-topic : d.queue ≡ false → LeavesIf (fits subs d (length rows) (length events) && (leb due (2 ^ 62) && not d.queue)) (Dispatched d r) (dispatch_topic due) d r subs rows events subs' rows' events'
        → LeavesIf yes (Sent d r) (dispatch clock) d r subs rows events subs' rows' events'
    unfolding dispatch_by
    of-topic e l = turned (fits subs d (length rows) (length events) && (leb due (2 ^ 62) && not d.queue)) yes (Dispatched d r) (Sent d r) (dispatch_topic due) (dispatch clock) (topic-test e)
        (λ _ y. (leaves-as (dispatch_topic due) (dispatch clock) d r subs rows events subs' rows' events' (λ p u h. by_kind false e p u) y.0, (y.1.consumers, omega (arith, y.1.most)))) l

-- a queue without consumers
pub none-there : (clock : ℕ) (d : Head) (subs rows events : List Row) → d.consumers ≡ 0
    → LeavesIf (queue_fits clock subs d (length rows) (length events)) (Sent d d) (dispatch_queue clock) d d subs rows events subs rows events
none-there clock d subs rows events e =
    let n : ℕ = length rows in
    let m : ℕ = length events in
    let can : Bool = queue_fits clock subs d n m in
    by-test can
    (λ y. when-leaves can (Sent d d) (dispatch_queue clock) d d subs rows events subs rows events y (queue-none clock d subs rows events (queue-stands subs d n m clock y).0 e))
    (λ y. leaves-no can (Sent d d) (dispatch_queue clock) d subs rows events y)
