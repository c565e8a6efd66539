-- The whole sweep: those that wait, those that the consumers hold, the count and the idle mark, as the definition has them. Assumes nothing.
use mathlib.Core.Path.{◌≡◌, refl, sym, ap, ap₂, ◌∙◌, subst, subst⁻¹}
use mathlib.Core.Bool.{Bool, true}
use mathlib.Core.List.{List, [], ◌++◌, append-nil, map}
use Prim.Native.Nat.{ℕ, ◌+◌, ◌-◌, ◌≤◌, ◌<◌, ◌^◌}
use native.Mathlib.Omega.{arith}
use borrow.Author.Tests.{lt-ltb, le-ltb, ltb-true, ltb-false}
use lib.Dec.{ltb}
use lib.ListN.{length, take, drop}
use lib.Seq.{slice, drop-drop, take-add}
use Rattle.words.proofs.Tests.{by-test}
use Rattle.entry.specs.Entry.{entry_of}
use Rattle.stats.specs.declared.Stats.{Stats}
use Rattle.stats.specs.Counted.{with_expired_by}
use Rattle.definition.specs.Types.{Kind, Id, Audit, Dest, Entry, with_pending, with_subs}
use Rattle.definition.specs.Types as Def
use Rattle.definition.specs.Consumer.{add_expired}
use Rattle.definition.specs.Destination as Destination
use Rattle.definition.specs.Destination.{Out, count, due, touch_idle, sweep_list, sweep_subs, sweep_expired}
use Rattle.definition.specs.Base.{all}
use Rattle.definition.specs.Layout.{Row, held_at, subs_at, sub_rows, entry_strict}
use Rattle.definition.proofs.Tests.{if-true, if-false}
use Rattle.definition.proofs.Local.{⊕-zero}
use Rattle.definition.proofs.Lists.{all_append, agree-later}
use Rattle.table.proofs.Lists.{slice-take, agree-drop}
use Rattle.consumers.proofs.View.{subs-agree}
use Rattle.consumers.proofs.Strict.{strict-agree, tables-strict, strict-tables, all_left, all_right}
use Rattle.state.specs.declared.Head.{Head}
use Rattle.state.specs.Answers as State
use Rattle.state.specs.State.{head_view, strict_tables, kind_by, with_counters, with_used, with_waiting, first_waiting, touched, due_by, done_as}
use Rattle.state.specs.Fits.{Fits}
use Rattle.state.specs.Leaves.{silent, both, Leaves, LeavesIf, Room}
use Rattle.state.specs.Ready.{Stands}
use Rattle.state.proofs.View.{touched-mark}
use Rattle.state.proofs.Counts.{expired-view}
use Rattle.state.proofs.Leaves.{leaves-as, leaves-both, leaves-touch, when-leaves}
use Rattle.expiry.specs.declared.Swept.{Swept}
use Rattle.expiry.specs.Expiry.{sweep_out, sweep_finished, SweepAnswers}
use Rattle.expiry.specs.Sweep.{Listed, sweep_listed, swept, waiting_swept, subs_swept, SweepFine, Shorter, StaysStrict, Able, SubsSwept}

-- ---- what the definition says

module _ (now most : ℕ) (t : Dest) where
  -- of those that wait, and of the consumers
  abbrev pub waits : Destination.Swept
  waits = sweep_list most now t.pending

  abbrev pub holds : Destination.SweptSubs
  holds = sweep_subs (most - waits.gone) now t.subs

  abbrev pub total : ℕ
  total = waits.gone + holds.gone

  abbrev pub lessened : Dest
  lessened = with_pending waits.list (with_subs holds.subs t)

-- at the call's clock, of those that have expired by the lessened clock
module _ (clock most : ℕ) (t : Dest) where
  abbrev went : ℕ
  went = total (due clock t) most t

  abbrev fewer : Dest
  fewer = lessened (due clock t) most t

  pub sweep-counts : 0 < went → sweep_expired clock most t ≡ record { answer = went; dest = touch_idle clock (count (add_expired went) fewer); events = [] }
  unfolding sweep_expired
  sweep-counts h = if-true _ _ (lt-ltb 0 went h)

  pub sweep-rests : went ≡ 0 → sweep_expired clock most t ≡ record { answer = 0; dest = fewer; events = [] }
  unfolding sweep_expired
  sweep-rests z =
      if-false _ _ (le-ltb 0 went (omega arith))
      ∙ ap (λ (n : ℕ). record { answer = 0; dest = count (add_expired n) fewer; events = [] }) z
      ∙ ap (λ (s : Stats). record { answer = 0; dest = Def.with_stats s fewer; events = [] }) (⊕-zero t.stats)

-- ---- the count

leaves-counted : (d : Head) (subs rows events : List Row) → Stands d subs → (g : ℕ) → d.stats.expired ≤ 2 ^ 62 → g ≤ 512
    → Leaves (silent (count (add_expired g))) d (with_counters (with_expired_by d.stats g) d) subs rows events subs rows events
leaves-counted d subs rows events s g h b = record {
  view = λ ps qs _. expired-view subs rows ps qs d g (omega arith);
  sent = λ ps qs _. sym (append-nil (take d.events events));
  later = refl;
  more = omega arith;
  producers = refl;
  audits = refl;
  queue = refl;
  allowance = refl;
  share = refl;
  consumers = s.consumers;
  used = s.used;
  rows-used = s.rows-used;
  strict = λ t. t;
  subs-past = refl;
  rows-past = refl;
  subs-length = refl;
  rows-length = refl;
  events-length = refl;
}

-- ---- those that wait

-- now is what entries expire by at the call's clock
module _ (most clock now : ℕ) (d : Head) (is : now ≡ due_by clock d) (subs rows events : List Row) (f : Fits subs d (length rows) (length events)) (late : clock ≤ 2 ^ 62) (few : most ≤ 512) (from : ℕ) (begins : from ≡ first_waiting d) where
  less-late : now ≤ 2 ^ 62
  less-late = omega (arith, is, late)

  abbrev n : ℕ
  n = sub_rows (take d.consumers subs)

  abbrev start : Swept
  start = record { used = d.used; length = d.waiting; gone = 0 }

  from_is : from ≡ n + d.reserved
  from_is = omega (arith, begins, f.rows-used)

  pub waiting-fine : SweepFine (length rows) from start most now
  waiting-fine = record { rows = omega (arith, from_is, f.rows-used); used = f.used; room = f.rows_long; gone = omega arith; few = few; clock = less-late }

  -- the rows of the list are those that wait
  list-is : (k : ℕ) (l : List Row) → slice from (from + k) l ≡ take k (drop d.reserved (drop n l))
  list-is k l =
      let e : from + k - from ≡ k = omega arith in
      slice-take from (from + k) l (omega arith)
      ∙ ap₂ (λ (x y : ℕ). take x (drop y l)) e from_is
      ∙ ap (take k) (sym (drop-drop d.reserved n l))

  module _ (w : Swept) (rows' : List Row) (same : length rows' ≡ length rows) (said : sweep_listed from w rows' ≡ swept most now (sweep_listed from start rows)) (short : Shorter most start w) (past : drop d.used rows' ≡ drop d.used rows) (stays : StaysStrict from start w rows rows') where
    abbrev left : Head
    left = with_used w.used (with_waiting w.length d)

    used-less : w.used ≤ d.used
    used-less = omega (arith, short.tail, short.length)

    rows_left : n + (d.reserved + w.length) ≡ w.used
    rows_left = omega (arith, short.tail, f.rows-used)

    able : Able subs left (length rows') w.gone most now
    able = record {
      subs-long = f.subs-long;
      rows_long = omega (arith, same, f.rows_long);
      consumers = f.consumers;
      used = omega (arith, used-less, f.used);
      rows-used = rows_left;
      gone = short.gone;
      few = few;
      clock = less-late;
    }

    pub able-at : (x : Head) → x ≡ left → Able subs x (length rows') w.gone most now
    able-at x e = subst⁻¹ (λ (y : Head). Able subs y (length rows') w.gone most now) e able

    -- the whole budget is left
    unused : most - 0 ≡ most
    unused = omega arith

    before_same : take from rows' ≡ take from rows
    unfolding sweep_listed swept
    before_same = ap (λ (v : Listed). v.before) said

    -- the consumers' rows and the reserved ones are as they were
    kept : take d.reserved (drop n rows') ≡ take d.reserved (drop n rows)
    kept =
        let m : from - n ≡ d.reserved = omega (arith, from_is) in
        ap (λ (x : ℕ). take x (drop n rows')) (sym m) ∙ agree-drop n from rows' rows before_same (omega (arith, from_is)) ∙ ap (λ (x : ℕ). take x (drop n rows)) m

    waiting-strict : strict_tables d subs rows ≡ true → strict_tables left subs rows' ≡ true
    waiting-strict t =
        let ws : List Row = take d.consumers subs in
        let s = tables-strict (d.reserved + d.waiting) ws rows t in
        let low : List Row = take d.reserved (drop n rows) in
        let high : List Row = slice from (from + d.waiting) rows in
        let high' : List Row = slice from (from + w.length) rows' in
        let old : all entry_strict (low ++ high) ≡ true =
        sym (ap (all entry_strict) (take-add d.reserved d.waiting (drop n rows) ∙ ap (λ (l : List Row). low ++ l) (sym (list-is d.waiting rows)))) ∙ s.others in
        strict-tables (d.reserved + w.length) ws rows' (record {
          subs = strict-agree ws from rows' rows (omega (arith, from_is)) before_same ∙ s.subs;
          others = ap (all entry_strict) (take-add d.reserved w.length (drop n rows') ∙ ap₂ (λ (x y : List Row). x ++ y) kept (sym (list-is w.length rows')))
              ∙ all_append entry_strict low high' (all_left entry_strict low high old) (stays (all_right entry_strict low high old));
        })

    module _ (ps : List Id) (qs : List Audit) where
      abbrev t : Dest
      t = head_view d subs rows ps qs

      pending-is : (sweep_listed from start rows).list ≡ t.pending
      unfolding sweep_listed head_view
      pending-is = ap (map entry_of) (list-is d.waiting rows)

      list_left : (sweep_listed from w rows').list ≡ (waits now most t).list
      unfolding sweep_listed swept
      list_left = ap (λ (v : Listed). v.list) said ∙ ap₂ (λ (x : ℕ) (l : List Entry). (sweep_list x now l).list) unused pending-is

      pub gone-waiting : w.gone ≡ (waits now most t).gone
      unfolding sweep_listed swept
      gone-waiting =
          let z : (g : ℕ) → 0 + g ≡ g = λ g. omega arith in
          ap (λ (v : Listed). v.gone) said ∙ z (sweep_list (most - 0) now (sweep_listed from start rows).list).gone ∙ ap₂ (λ (x : ℕ) (l : List Entry). (sweep_list x now l).gone) unused pending-is

      pub waiting-view : head_view left subs rows' ps qs ≡ waiting_swept most now t
      unfolding sweep_listed head_view
      waiting-view =
          let k : Kind = kind_by d.queue in
          let ws : List Row = take d.consumers subs in
          let mine : subs_at k ws rows' ≡ subs_at k ws rows = subs-agree k ws from rows' rows (omega (arith, from_is)) before_same in
          let list : map entry_of (take w.length (drop d.reserved (drop n rows'))) ≡ (waits now most t).list = ap (map entry_of) (sym (list-is w.length rows')) ∙ list_left in
          λ j. record {
            kind = k;
            topic_limit = d.topic_limit;
            call_limit = d.call_limit;
            allowance = d.allowance;
            share = d.share;
            calls_used = d.calls_used;
            pending = list j;
            subs = mine j;
            rr = d.turn;
            producers = ps;
            audits = qs;
            stats = d.stats;
            idle = t.idle;
            reserved = map held_at (kept j);
          }

    leaves-waiting : Leaves (silent (waiting_swept most now)) d left subs rows events subs rows' events
    leaves-waiting = record {
      view = λ ps qs _. waiting-view ps qs;
      sent = λ ps qs _. sym (append-nil (take d.events events));
      later = refl;
      more = omega arith;
      producers = refl;
      audits = refl;
      queue = refl;
      allowance = refl;
      share = refl;
      consumers = f.consumers;
      used = able.used;
      rows-used = rows_left;
      strict = waiting-strict;
      subs-past = refl;
      rows-past = agree-later d.used 512 rows' rows f.used past;
      subs-length = refl;
      rows-length = same;
      events-length = refl;
    }

    -- ---- and those that the consumers hold

    module _ (r : Swept) (subs' rows'' : List Row) (g : SubsSwept most now left w.gone subs rows' subs' rows'' r) where
      abbrev right : Head
      right = with_used r.used left

      abbrev parts : Dest → Out
      parts = both (silent (waiting_swept most now)) (silent (subs_swept (most - w.gone) now))

      leaves-parts : Leaves parts d right subs rows events subs' rows'' events
      leaves-parts = leaves-both (silent (waiting_swept most now)) (silent (subs_swept (most - w.gone) now)) d left right subs rows events subs rows' events subs' rows'' events leaves-waiting (g.leaves events)

      stands : Stands right subs'
      stands = record { consumers = f.consumers; used = leaves-parts.used; rows-used = leaves-parts.rows-used }

      module _ (ps : List Id) (qs : List Audit) where
        abbrev u : Dest
        u = head_view d subs rows ps qs

        parts_are : (parts u).dest ≡ lessened now most u
        parts_are = ap (λ (x : ℕ). with_pending (waits now most u).list (with_subs (sweep_subs (most - x) now u.subs).subs u)) (gone-waiting ps qs)

        total-is : r.gone ≡ total now most u
        total-is =
            g.gone ps qs
            ∙ ap₂ (λ (x : ℕ) (l : List Def.Sub). x + (sweep_subs (most - x) now l).gone) (gone-waiting ps qs) (ap (λ (x : Dest). x.subs) (waiting-view ps qs))

        counts : 0 < total now most u → sweep_expired clock most u ≡ record { answer = total now most u; dest = touch_idle clock (count (add_expired (total now most u)) (lessened now most u)); events = [] }
        unfolding head_view
        counts = rw is (sweep-counts clock most u)

        rests : total now most u ≡ 0 → sweep_expired clock most u ≡ record { answer = 0; dest = lessened now most u; events = [] }
        unfolding head_view
        rests = rw is (sweep-rests clock most u)

      used-right : r.used ≤ d.used
      used-right = omega (arith, g.used, used-less)

      -- some went
      abbrev counted : Head
      counted = with_counters (with_expired_by d.stats r.gone) right

      abbrev ending : Dest → Out
      ending = both (both parts (silent (count (add_expired r.gone)))) (silent (touch_idle clock))

      leaves-some : 0 < r.gone → Leaves (sweep_out clock most) d (touched clock counted) subs rows events subs' rows'' events
      leaves-some h =
          let ls : 32 ≤ length subs' = omega (arith, leaves-parts.subs-length, f.subs-long) in
          let lr : 512 ≤ length rows'' = omega (arith, leaves-parts.rows-length, f.rows_long) in
          let one = leaves-counted right subs' rows'' events stands r.gone f.expired (omega (arith, g.few)) in
          let two = leaves-touch counted subs' rows'' events (record { consumers = stands.consumers; used = stands.used; rows-used = stands.rows-used }) clock ls lr in
          let three = leaves-both parts (silent (count (add_expired r.gone))) d right counted subs rows events subs' rows'' events subs' rows'' events leaves-parts one in
          let four = leaves-both (both parts (silent (count (add_expired r.gone)))) (silent (touch_idle clock)) d counted (touched clock counted) subs rows events subs' rows'' events subs' rows'' events three two in
          leaves-as ending (sweep_out clock most) d (touched clock counted) subs rows events subs' rows'' events
          (λ ps qs _.
          (λ j. record { dest = touch_idle clock (count (add_expired (total-is ps qs j)) (parts_are ps qs j)); events = [] })
          ∙ (λ j. record { dest = (sym (counts ps qs (omega (arith, h, total-is ps qs))) j).dest; events = [] }))
          four

      -- none went
      leaves_none : r.gone ≡ 0 → Leaves (sweep_out clock most) d right subs rows events subs' rows'' events
      leaves_none z = leaves-as parts (sweep_out clock most) d right subs rows events subs' rows'' events
          (λ ps qs _.
          (λ j. record { dest = parts_are ps qs j; events = [] })
          ∙ (λ j. record { dest = (sym (rests ps qs (sym (total-is ps qs) ∙ z)) j).dest; events = [] }))
          leaves-parts

      -- what `sweep` leaves and answers, where its test holds
      module _ (test : Bool) (holds_test : test ≡ true) where
        Done : State.Replied → Type 0
        Done a = LeavesIf test (Room d a.head) (sweep_out clock most) d a.head subs rows events subs' rows'' events × SweepAnswers test (sweep_expired clock most) d subs rows a

        answers : (a : State.Replied) → a.refusal ≡ 0 → ((ps : List Id) (qs : List Audit) → a.answer ≡ (sweep_expired clock most (head_view d subs rows ps qs)).answer) → SweepAnswers test (sweep_expired clock most) d subs rows a
        answers a e h = record {
          refusal = e ∙ sym (if-true 0 2 holds_test);
          answer = λ ps qs _. h ps qs ∙ sym (if-true _ 0 holds_test);
        }

        some-went : 0 < r.gone → Done (done_as r.gone (touched clock counted))
        unfolding Done
        some-went h =
            let m = touched-mark clock counted in
            let k : Room d (touched clock counted) = record { room = rw m (omega (arith, used-right, f.sent)); as_many = ap (λ (x : Head). x.consumers) m } in (
              when-leaves test (Room d (touched clock counted)) (sweep_out clock most) d (touched clock counted) subs rows events subs' rows'' events holds_test (leaves-some h, k),
              answers (done_as r.gone (touched clock counted)) refl (λ ps qs. total-is ps qs ∙ sym (ap (λ (x : Destination.Answer). x.answer) (counts ps qs (omega (arith, h, total-is ps qs))))),
            )

        none-went : r.gone ≡ 0 → Done (done_as 0 right)
        unfolding Done
        none-went z = (
          when-leaves test (Room d right) (sweep_out clock most) d right subs rows events subs' rows'' events holds_test (leaves_none z, record { room = omega (arith, used-right, f.sent); as_many = refl }),
          answers (done_as 0 right) refl (λ ps qs. sym (ap (λ (x : Destination.Answer). x.answer) (rests ps qs (sym (total-is ps qs) ∙ z)))),
        )

        sweep-ends : (a : State.Replied) → a ≡ sweep_finished r.gone clock right
            → LeavesIf test (Room d a.head) (sweep_out clock most) d a.head subs rows events subs' rows'' events × SweepAnswers test (sweep_expired clock most) d subs rows a
        unfolding Done
        sweep-ends a e = by-test (ltb 0 r.gone)
            (λ h. let q : a ≡ done_as r.gone (touched clock counted) = e ∙ if-true _ _ h in rw q (some-went (ltb-true 0 r.gone h)))
            (λ h. let q : a ≡ done_as 0 right = e ∙ if-false _ _ h in rw q (none-went (let b : r.gone ≤ 0 = ltb-false 0 r.gone h in omega arith)))

    -- the same from the head that the first part leaves
    pub sweep-from : (x : Head) → x ≡ left → (r : Swept) (subs' rows'' : List Row) → SubsSwept most now x w.gone subs rows' subs' rows'' r → (test : Bool) → test ≡ true
        → (a : State.Replied) → a ≡ sweep_finished r.gone clock (with_used r.used (with_waiting x.waiting x))
        → LeavesIf test (Room d a.head) (sweep_out clock most) d a.head subs rows events subs' rows'' events × SweepAnswers test (sweep_expired clock most) d subs rows a
    sweep-from x e r subs' rows'' g test sure a q =
        sweep-ends r subs' rows'' (subst (λ (y : Head). SubsSwept most now y w.gone subs rows' subs' rows'' r) e g) test sure a
        (q ∙ ap (λ (y : Head). sweep_finished r.gone clock (with_used r.used (with_waiting y.waiting y))) e)
