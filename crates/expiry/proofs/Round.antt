-- What holds while the consumers are swept one after the other, and what it says when all are. Assumes nothing.
use mathlib.Core.Path.{◌≡◌, refl, sym, ap, ◌∙◌}
use mathlib.Core.Bool.{true, ◌&&◌}
use mathlib.Core.List.{List, [], append-nil, map}
use Prim.Native.Nat.{ℕ, suc, ◌+◌, ◌-◌, ◌≤◌, ◌<◌}
use native.Mathlib.Omega.{arith}
use lib.ListN.{length, take, drop, get_or, set, length-set}
use lib.Seq.{drop-length, length-take-le, get_or-take, drop-set-lt}
use Rattle.entry.specs.Entry.{entry_of}
use Rattle.definition.specs.Types.{Kind, Id, Audit}
use Rattle.definition.specs.Destination as Destination
use Rattle.definition.specs.Destination.{sweep_subs}
use Rattle.definition.specs.Base.{all}
use Rattle.definition.specs.Layout.{Row, held_at, each_sub, subs_at, sub_rows, entry_strict, subs_strict}
use Rattle.definition.proofs.Lists.{agree-later}
use Rattle.table.proofs.Lists.{same_after, agree-take, agree-drop}
use Rattle.consumers.specs.declared.Sub.{Sub}
use Rattle.consumers.specs.Consumers.{row_sub, sub_words, with_held}
use Rattle.consumers.proofs.Line.{left-size}
use Rattle.consumers.proofs.Strict.{tables-strict, strict-tables}
use Rattle.state.specs.declared.Head.{Head}
use Rattle.state.specs.State.{head_view, kind_by, with_used}
use Rattle.expiry.specs.declared.Swept.{Swept}
use Rattle.expiry.specs.Sweep.{sweep_listed, swept_unless, subs_swept, SweepFine, Shorter, StaysStrict, Able, SubsSwept}
use Rattle.expiry.proofs.Each.{Whole, whole, whole-start, whole-end, fits-turn, used_turn, ends-turn, strict-turn, whole-turn}

pub record Round (most now : ℕ) (subs₀ rows₀ : List Row) (d : Head) (before : ℕ) (subs rows : List Row) (w : Swept) (base i : ℕ) : Type 0 where
  pub within : i ≤ d.consumers
  pub same-subs : length subs ≡ length subs₀
  pub same_rows : length rows ≡ length rows₀
  pub rest : drop i subs ≡ drop i subs₀
  pub fits : base + sub_rows (drop i (take d.consumers subs₀)) + (d.reserved + d.waiting) ≡ w.used
  pub used : w.used ≤ d.used
  pub gone : w.gone ≤ most
  pub ends : base ≡ sub_rows (take i subs)
  pub past : drop d.used rows ≡ drop d.used rows₀
  pub strict : subs_strict (take d.consumers subs₀) rows₀ ≡ true → (subs_strict (take i subs) rows ≡ true) × (subs_strict (drop i (take d.consumers subs₀)) (drop base rows) ≡ true)
  pub said : whole most now (kind_by d.queue) (take d.consumers subs₀) (d.reserved + d.waiting) i base w.gone subs rows
      ≡ whole most now (kind_by d.queue) (take d.consumers subs₀) (d.reserved + d.waiting) 0 0 before subs₀ rows₀

module _ (most now : ℕ) (subs₀ rows₀ : List Row) (d : Head) (before : ℕ) (able : Able subs₀ d (length rows₀) before most now) where
  abbrev ws : List Row
  ws = take d.consumers subs₀

  abbrev m : ℕ
  m = d.reserved + d.waiting

  abbrev k : Kind
  k = kind_by d.queue

  size : length ws ≡ d.consumers
  size = length-take-le d.consumers subs₀ (omega (arith, able.consumers, able.subs-long))

  pub round-start : Round most now subs₀ rows₀ d before subs₀ rows₀ (record { used = d.used; length = 0; gone = before }) 0 0
  unfolding sub_rows each_sub
  round-start = record { within = omega arith; same-subs = refl; same_rows = refl; rest = refl; fits = omega (arith, able.rows-used); used = omega arith; gone = able.gone; ends = refl; past = refl; strict = λ h. (refl, h); said = refl }

  module _ (subs rows : List Row) (w : Swept) (base i : ℕ) (g : Round most now subs₀ rows₀ d before subs rows w base i) where
    module _ (less : i < d.consumers) where
      here : i < length ws
      here = omega (arith, size)

      row_is : get_or subs i [] ≡ get_or ws i []
      row_is = same_after i i subs subs₀ [] g.rest (omega arith) ∙ sym (get_or-take d.consumers subs₀ i [] less)

      pub round-rows : (s : Sub) → s ≡ row_sub (get_or subs i []) → base + s.inflight + s.held ≤ w.used
      round-rows s e =
          let h : sub_rows (drop i ws) ≡ (row_sub (get_or ws i [])).inflight + ((row_sub (get_or ws i [])).held + sub_rows (drop (suc i) ws)) = left-size ws i here in
          let l : base + (row_sub (get_or ws i [])).inflight + (row_sub (get_or ws i [])).held ≤ w.used = omega (arith, h, g.fits) in
          rw (e, row_is) l

      pub round-fine : (s : Sub) → s ≡ row_sub (get_or subs i []) → SweepFine (length rows) (base + s.inflight) (record { used = w.used; length = s.held; gone = w.gone }) most now
      round-fine s e = record {
        rows = round-rows s e;
        used = omega (arith, g.used, able.used);
        room = omega (arith, g.same_rows, able.rows_long);
        gone = g.gone;
        few = able.few;
        clock = able.clock;
      }

      pub round-turn : (s : Sub) (start r : Swept) (subs' rows' : List Row) → s ≡ row_sub (get_or subs i []) → start ≡ record { used = w.used; length = s.held; gone = w.gone }
          → subs' ≡ set subs i (sub_words (with_held r.length s)) → length rows' ≡ length rows
          → sweep_listed (base + s.inflight) r rows' ≡ swept_unless (d.queue && s.browser) most now (sweep_listed (base + s.inflight) start rows) → Shorter most start r → drop start.used rows' ≡ drop start.used rows → StaysStrict (base + s.inflight) start r rows rows'
          → Round most now subs₀ rows₀ d before subs' rows' r (base + s.inflight + r.length) (i + 1)
      round-turn s start r subs' rows' e st p lr said short past stays =
          let q : s ≡ row_sub (get_or ws i []) = e ∙ ap row_sub row_is in
          let b : i < length subs = omega (arith, able.subs-long, able.consumers, g.same-subs) in
          let st' : start ≡ record { used = w.used; length = (row_sub (get_or ws i [])).held; gone = w.gone } = rw q at st in
          let said' : sweep_listed (base + (row_sub (get_or ws i [])).inflight) r rows' ≡ swept_unless (d.queue && (row_sub (get_or ws i [])).browser) most now (sweep_listed (base + (row_sub (get_or ws i [])).inflight) start rows) = rw q at said in
          let stays' : StaysStrict (base + (row_sub (get_or ws i [])).inflight) start r rows rows' = rw q at stays in
          let u : start.used ≡ w.used = ap (λ (y : Swept). y.used) st in
          rw (p, q) (record {
            within = omega arith;
            same-subs = simp length-set g.same-subs;
            same_rows = lr ∙ g.same_rows;
            rest = drop-set-lt (i + 1) subs i (sub_words (with_held r.length (row_sub (get_or ws i [])))) (omega arith) ∙ agree-later i (i + 1) subs subs₀ (omega arith) g.rest;
            fits = fits-turn most now d.queue ws m i base w start r subs rows rows' here b g.fits g.ends st' short said';
            used = omega (arith, used_turn most now d.queue ws m i base w start r subs rows rows' here b g.fits g.ends st' short said', g.used);
            gone = short.gone;
            ends = ends-turn most now d.queue ws m i base w start r subs rows rows' here b g.fits g.ends st' short said';
            past = agree-later start.used d.used rows' rows (omega (arith, u, g.used)) past ∙ g.past;
            strict = λ h. let a = g.strict h in strict-turn most now d.queue ws m i base w start r subs rows rows' here b g.fits g.ends st' short said' stays' a.0 a.1;
            said = whole-turn most now d.queue ws m i base w start r subs rows rows' here b g.fits g.ends st' short said' ∙ g.said;
          })

    -- all are swept
    module _ (done : d.consumers ≤ i) where
      all_done : i ≡ length ws
      all_done = omega (arith, size, g.within)

      i-is : i ≡ d.consumers
      i-is = all_done ∙ size

      abbrev x : Destination.SweptSubs
      x = sweep_subs (most - before) now (subs_at k ws rows₀)

      last : ◌≡◌ {A = Whole} (record { subs = subs_at k (take i subs) rows; others = take m (drop base rows); gone = w.gone }) (record { subs = x.subs; others = take m (drop (sub_rows ws) rows₀); gone = before + x.gone })
      last = sym (whole-end most now k ws m i base w.gone subs rows all_done) ∙ g.said ∙ whole-start most now k ws m before subs₀ rows₀

      base-is : base ≡ sub_rows (take d.consumers subs)
      base-is = g.ends ∙ ap (λ (n : ℕ). sub_rows (take n subs)) i-is

      none_left : sub_rows (drop i ws) ≡ 0
      unfolding sub_rows
      none_left = ap sub_rows (ap (λ (n : ℕ). drop n ws) all_done ∙ drop-length ws)

      -- the rows after those of the consumers are as they were
      others : take m (drop (sub_rows (take d.consumers subs)) rows) ≡ take m (drop (sub_rows ws) rows₀)
      others = ap (λ (n : ℕ). take m (drop n rows)) (sym base-is) ∙ ap (λ (y : Whole). y.others) last

      view : (ps : List Id) (qs : List Audit) → head_view (with_used w.used d) subs rows ps qs ≡ subs_swept (most - before) now (head_view d subs₀ rows₀ ps qs)
      unfolding head_view
      view ps qs =
          let u : List Row = take d.consumers subs in
          let a : List Row = drop (sub_rows u) rows in
          let b : List Row = drop (sub_rows ws) rows₀ in
          let mine : subs_at k u rows ≡ x.subs = ap (λ (n : ℕ). subs_at k (take n subs) rows) (sym i-is) ∙ ap (λ (y : Whole). y.subs) last in
          let n : m - d.reserved ≡ d.waiting = omega arith in
          let waits : take d.waiting (drop d.reserved a) ≡ take d.waiting (drop d.reserved b) =
          ap (λ (y : ℕ). take y (drop d.reserved a)) (sym n) ∙ agree-drop d.reserved m a b others (omega arith) ∙ ap (λ (y : ℕ). take y (drop d.reserved b)) n in
          let held : take d.reserved a ≡ take d.reserved b = agree-take d.reserved m a b others (omega arith) in
          λ j. record {
            kind = kind_by d.queue;
            topic_limit = d.topic_limit;
            call_limit = d.call_limit;
            allowance = d.allowance;
            share = d.share;
            calls_used = d.calls_used;
            pending = map entry_of (waits j);
            subs = mine j;
            rr = d.turn;
            producers = ps;
            audits = qs;
            stats = d.stats;
            idle = (head_view d subs₀ rows₀ ps qs).idle;
            reserved = map held_at (held j);
          }

      pub round-end : SubsSwept most now d before subs₀ rows₀ subs rows w
      unfolding head_view
      round-end = record {
        leaves = λ events. record {
          view = λ ps qs _. view ps qs;
          sent = λ ps qs _. sym (append-nil (take d.events events));
          later = refl;
          more = omega arith;
          producers = refl;
          audits = refl;
          queue = refl;
          allowance = refl;
          share = refl;
          consumers = able.consumers;
          used = omega (arith, g.used, able.used);
          rows-used = omega (arith, base-is, none_left, g.fits);
          strict = λ t.
              let s = tables-strict m ws rows₀ t in
              strict-tables m (take d.consumers subs) rows (record { subs = ap (λ (n : ℕ). subs_strict (take n subs) rows) (sym i-is) ∙ (g.strict s.subs).0; others = ap (all entry_strict) others ∙ s.others });
          subs-past = agree-later i 32 subs subs₀ (omega (arith, i-is, able.consumers)) g.rest;
          rows-past = agree-later d.used 512 rows rows₀ able.used g.past;
          subs-length = g.same-subs;
          rows-length = g.same_rows;
          events-length = refl;
        };
        gone = λ ps qs. ap (λ (y : Whole). y.gone) last;
        few = g.gone;
        used = g.used;
      }
