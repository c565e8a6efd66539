-- A queue's dispatch in two parts, browsers and the scan: what they mean together, that the numbers fit between them, and that without a browser
-- the scan is all. Assumes nothing.
use mathlib.Core.Path.{◌≡◌, refl, sym, ap, ◌∙◌}
use mathlib.Core.Bool.{true, false, not}
use mathlib.Core.List.{List, [], ◌∷◌, ◌++◌}
use Prim.Native.Nat.{ℕ, zero, suc, ◌≤◌, ◌<◌, ◌^◌}
use native.Mathlib.Omega.{arith}
use borrow.Author.Tests.{not-true}
use lib.ListN.{length, take, drop}
use Rattle.stats.specs.declared.Stats.{Stats}
use Rattle.definition.specs.Base.{empty, all}
use Rattle.definition.specs.Types.{Kind, Id, Audit, Entry, Dest, with_pending, with_subs, with_stats}
use Rattle.definition.specs.Consumer.{zero_stats, is_browser}
use Rattle.definition.specs.Destination.{Out, Browsed, count, browsers, dispatch_queue}
use Rattle.definition.specs.Layout.{Row, inflight_count, held_count, sub_at, each_sub, subs_at}
use Rattle.definition.proofs.Tests.{if-true, if-false, and_left, and_right}
use Rattle.definition.proofs.Local.{⊕-zero}
use Rattle.consumers.specs.Consumers.{row_sub}
use Rattle.consumers.proofs.View.{sub_at_lem}
use Rattle.consumers.proofs.Laws.{browser-sub}
use Rattle.state.specs.declared.Head.{Head}
use Rattle.state.specs.State.{head_view, kind_by}
use Rattle.state.specs.Fits.{Fits}
use Rattle.state.specs.Leaves.{silent, both, Leaves, LeavesIf}
use Rattle.state.specs.Ready.{Stands}
use Rattle.state.proofs.Leaves.{leaves-as, leaves-both, leaves-rest, leaves-when}
use Rattle.browsers.specs.Browsers.{browsed, BrowsersServed}
use Rattle.queues.specs.Scan.{served, scans, Scans, Onward}
use Rattle.queues.proofs.Guard.{scans-yes}
use Rattle.dispatch.specs.Dispatch.{Sent}

none-joined : (d : Head) (subs rows : List Row) (producers : List Id) (audits : List Audit) → d.consumers ≡ 0 → empty (head_view d subs rows producers audits).subs ≡ true
unfolding head_view each_sub
none-joined d subs rows producers audits e = ap (λ (n : ℕ). empty (subs_at (kind_by d.queue) (take n subs) rows)) e

some-joined : (n : ℕ) (k : Kind) (subs rows : List Row) → 0 < n → n ≤ length subs → empty (subs_at k (take n subs) rows) ≡ false
unfolding each_sub
some-joined zero k subs rows h l = absurd (omega arith)
some-joined (suc n) k [] rows h l = absurd (omega arith)
some-joined (suc n) k (w ∷ ws) rows h l = refl

-- consumers that are no browsers are passed over
browsers-none : (now : ℕ) (k : Kind) (ws rows : List Row) (p : List Entry) → all (λ w. not (row_sub w).browser) ws ≡ true → browsers now (subs_at k ws rows) p ≡ record { subs = subs_at k ws rows; pending = p; counts = zero_stats; events = [] }
unfolding browsers each_sub
browsers-none now k [] rows p h = refl
browsers-none now k (w ∷ ws) rows p h =
    let flying : List Row = take (inflight_count w) rows in
    let held : List Row = take (held_count w) (drop (inflight_count w) rows) in
    let no : is_browser (sub_at k w flying held) ≡ false = ap is_browser (sub_at_lem k w flying held) ∙ browser-sub k (row_sub w) flying held ∙ not-true (row_sub w).browser (and_left (not (row_sub w).browser) _ h) in
    rw (no, browsers-none now k ws (drop (held_count w) (drop (inflight_count w) rows)) p (and_right (not (row_sub w).browser) _ h))

-- no consumer
pub queue-none : (clock : ℕ) (d : Head) (subs rows events : List Row) → Stands d subs → d.consumers ≡ 0 → Leaves (dispatch_queue clock) d d subs rows events subs rows events × Sent d d
unfolding dispatch_queue
queue-none clock d subs rows events s e = (
  leaves-as (silent (λ t. t)) (dispatch_queue clock) d d subs rows events subs rows events
      (λ p a h. sym (if-true _ _ (none-joined d subs rows p a e)))
      (leaves-rest d subs rows events s),
  (refl, omega arith),
)

-- browsers, then the scan
module _ (clock : ℕ) (d r : Head) (subs rows events subs'' rows'' events'' : List Row) (some : 0 < d.consumers) (short : d.consumers ≤ length subs) where
  in_two : Leaves (both (browsed clock) (served clock)) d r subs rows events subs'' rows'' events'' → Leaves (dispatch_queue clock) d r subs rows events subs'' rows'' events''
  unfolding dispatch_queue served head_view
  in_two l = leaves-as (both (browsed clock) (served clock)) (dispatch_queue clock) d r subs rows events subs'' rows'' events'' (λ p a h. sym (if-false _ _ (some-joined d.consumers _ subs rows some short))) l

  -- no browser: the scan alone
  module _ (no : all (λ w. not (row_sub w).browser) (take d.consumers subs) ≡ true) (ok : Scans subs d (length rows) (length events)) where
    none-shown : (p : List Id) (a : List Audit) → browsed clock (head_view d subs rows p a) ≡ record { dest = head_view d subs rows p a; events = [] }
    unfolding head_view
    none-shown p a =
        let t : Dest = head_view d subs rows p a in
        ap (λ (b : Browsed). record { dest = count b.counts (with_pending b.pending (with_subs b.subs t)); events = b.events }) (browsers-none clock (kind_by d.queue) (take d.consumers subs) rows t.pending no)
        ∙ ap (λ (s : Stats). record { dest = with_stats s t; events = [] }) (⊕-zero d.stats)

    pub queue-alone : Leaves (served clock) d r subs rows events subs'' rows'' events'' × Onward d r subs rows events subs'' rows'' events'' → Leaves (dispatch_queue clock) d r subs rows events subs'' rows'' events'' × Sent d r
    queue-alone l = (
      in_two (leaves-as (served clock) (both (browsed clock) (served clock)) d r subs rows events subs'' rows'' events''
          (λ p a h. sym (ap (λ (x : Out). record { dest = (served clock x.dest).dest; events = x.events ++ (served clock x.dest).events }) (none-shown p a)))
          l.0),
      (l.1.consumers, omega (arith, l.1.room, ok.rows-used)),
    )

module _ (clock : ℕ) (d : Head) (subs rows events : List Row) (f : Fits subs d (length rows) (length events)) (late : clock ≤ 2 ^ 62) (q : d.queue ≡ true) (some : 0 < d.consumers)
    (m : Head) (subs' rows' events' : List Row) (l : Leaves (browsed clock) d m subs rows events subs' rows' events') (s : BrowsersServed d m subs')
  where
    between : scans clock subs' m (length rows') (length events') ≡ true
    between = scans-yes clock subs' m (length rows') (length events') late (l.queue ∙ q) (omega (arith, l.subs-length, f.subs-long)) (omega (arith, l.rows-length, f.rows_long)) l.consumers
        (omega (arith, s.turn, f.turn)) (omega (arith, s.most, f.sent, f.consumers, f.events-long, l.events-length)) (omega (arith, s.expired, f.expired, f.used)) (omega (arith, s.dispatched, f.dispatched)) l.used l.rows-used s.nexts

    module _ (r : Head) (subs'' rows'' events'' : List Row)
        (p : LeavesIf (scans clock subs' m (length rows') (length events')) (Onward m r subs' rows' events' subs'' rows'' events'') (served clock) m r subs' rows' events' subs'' rows'' events'')
      where
        pub queue-some : Leaves (dispatch_queue clock) d r subs rows events subs'' rows'' events'' × Sent d r
        queue-some =
            let y = leaves-when _ _ (served clock) m r subs' rows' events' subs'' rows'' events'' between p in (
              in_two clock d r subs rows events subs'' rows'' events'' some (omega (arith, f.consumers, f.subs-long))
                  (leaves-both (browsed clock) (served clock) d m r subs rows events subs' rows' events' subs'' rows'' events'' l y.0),
              (y.1.consumers ∙ s.consumers, omega (arith, y.1.room, s.most)),
            )
