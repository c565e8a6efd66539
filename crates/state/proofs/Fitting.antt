-- The numbers that fit, as facts and back; and that those of sound buffers fit. Assumes nothing.
use mathlib.Core.Path.{◌≡◌, refl, ap, ◌∙◌, subst}
use mathlib.Core.Bool.{Bool, true, false, ◌&&◌, ◌||◌}
use mathlib.Core.List.{List, [], ◌∷◌, map}
use Prim.Native.Nat.{ℕ, ◌+◌, ◌≤◌, ◌^◌}
use native.Mathlib.Omega.{arith}
use borrow.Author.Tests.{ltb-true, ltb-false, leb-true, eqb-true, le-leb, eq-eqb}
use lib.Dec.{eqb, leb, ltb}
use lib.ListN.{length, take, drop, length-map, length-take}
use Rattle.definition.specs.Base.{all, every, tally}
use Rattle.definition.specs.Types.{Kind, Id, Audit}
use Rattle.definition.specs.Calls.{state_short, short, bound, sub_tests, sub_sound, sound_tests, sound}
use Rattle.definition.specs.Words.{at}
use Rattle.definition.specs.Layout.{Row, Buffers, inflight_count, held_count, inflight_at, sub_at, each_sub, subs_at, sub_rows, ids_at, audits_at, rings_formed, used_rows, strict, formed, sound_buffers, lengths_of}
use Rattle.definition.proofs.Tests.{and_left, and_right, and_both, or-no-left, or-no-right}
use Rattle.definition.proofs.Thin.{every-all, all-every, tally-length}
use Rattle.consumers.specs.Table.{fitting}
use Rattle.state.specs.declared.Head.{Head}
use Rattle.state.specs.State.{head_of, head_view, strict_tables, loaded, with_used_calls}
use Rattle.state.specs.Fits.{fits, Fits}
use Rattle.state.proofs.View.{loaded-long, loaded-view, loaded-strict}

-- ---- facts

module _ (subs : List Row) (d : Head) (rows events : ℕ) where
  abbrev tables : List Bool
  tables = leb 32 (length subs) ∷ leb 512 rows ∷ leb 545 events ∷ []

  abbrev numbers : List Bool
  numbers = leb d.consumers 32 ∷ leb d.turn 32 ∷ leb d.reserved 512 ∷ leb d.waiting 512 ∷ leb d.used 512 ∷ leb (d.events + d.used) 512 ∷ leb d.calls_used (2 ^ 62) ∷ []

  abbrev counters : List Bool
  counters = leb d.stats.enqueued (2 ^ 62) ∷ leb d.stats.dequeued (2 ^ 62) ∷ leb d.stats.expired (2 ^ 62) ∷ leb d.stats.discarded (2 ^ 62) ∷ leb d.stats.dispatched (2 ^ 62) ∷ []

  abbrev tests : List Bool
  tests = every tables ∷ every numbers ∷ every counters ∷ eqb (sub_rows (take d.consumers subs) + (d.reserved + d.waiting)) d.used ∷ all fitting (take d.consumers subs) ∷ []

  pub fits-facts : fits subs d rows events ≡ true → Fits subs d rows events
  unfolding fits
  fits-facts h =
      let f = every-all tests h in
      let t = every-all tables f.0 in
      let n = every-all numbers f.1.0 in
      let c = every-all counters f.1.1.0 in
      record {
        subs-long = leb-true _ _ t.0;
        rows_long = leb-true _ _ t.1.0;
        events-long = leb-true _ _ t.1.1.0;
        consumers = leb-true _ _ n.0;
        turn = leb-true _ _ n.1.0;
        reserved = leb-true _ _ n.1.1.0;
        waiting = leb-true _ _ n.1.1.1.0;
        used = leb-true _ _ n.1.1.1.1.0;
        sent = leb-true _ _ n.1.1.1.1.1.0;
        calls = leb-true _ _ n.1.1.1.1.1.1.0;
        enqueued = leb-true _ _ c.0;
        dequeued = leb-true _ _ c.1.0;
        expired = leb-true _ _ c.1.1.0;
        discarded = leb-true _ _ c.1.1.1.0;
        dispatched = leb-true _ _ c.1.1.1.1.0;
        rows-used = eqb-true _ _ f.1.1.1.0;
        fitted = f.1.1.1.1.0;
      }

  pub facts-fit : Fits subs d rows events → fits subs d rows events ≡ true
  unfolding fits
  facts-fit f =
      let t = all-every tables (le-leb _ _ f.subs-long, (le-leb _ _ f.rows_long, (le-leb _ _ f.events-long, tt))) in
      let n = all-every numbers
      (le-leb _ _ f.consumers, (le-leb _ _ f.turn, (le-leb _ _ f.reserved, (le-leb _ _ f.waiting, (le-leb _ _ f.used, (le-leb _ _ f.sent, (le-leb _ _ f.calls, tt))))))) in
      let c = all-every counters (le-leb _ _ f.enqueued, (le-leb _ _ f.dequeued, (le-leb _ _ f.expired, (le-leb _ _ f.discarded, (le-leb _ _ f.dispatched, tt))))) in
      all-every tests (t, (n, (c, (eq-eqb _ _ f.rows-used, (f.fitted, tt)))))

  -- test by test
  pub fits_by : {t n c u : Bool} → every tables ≡ t → every numbers ≡ n → every counters ≡ c → eqb (sub_rows (take d.consumers subs) + (d.reserved + d.waiting)) d.used ≡ u
      → fits subs d rows events ≡ (t && (n && (c && (u && (all fitting (take d.consumers subs) && true)))))
  unfolding fits
  fits_by p q r s = λ j. p j && (q j && (r j && (s j && (all fitting (take d.consumers subs) && true))))

  pub used-few : every numbers ≡ true → d.used ≤ 512
  used-few h = leb-true _ _ (every-all numbers h).1.1.1.1.0

-- ---- sound buffers

or_cases : (a b : Bool) {P : Type 0} → (a || b) ≡ true → (a ≡ true → P) → (b ≡ true → P) → P
or_cases true b e f g = f refl
or_cases false b e f g = g e

-- a consumer that is sound fits
sub-fits : (k : Kind) (used : ℕ) → used ≤ 2 ^ 40 → (w : Row) (flying held : List Row) → length flying ≤ inflight_count w → sub_sound k used (sub_at k w flying held) ≡ true → fitting w ≡ true
unfolding sub_sound sub_at fitting
sub-fits k used u w flying held l h =
    let f = every-all (sub_tests k used (sub_at k w flying held)) h in
    let freed : at 13 w ≡ tally (λ i. i.freed) (map inflight_at flying) = eqb-true _ _ f.1.1.1.1.1.1.0 in
    let most : tally (λ i. i.freed) (map inflight_at flying) ≤ length flying = subst (λ (n : ℕ). tally (λ i. i.freed) (map inflight_at flying) ≤ n) (length-map flying inflight_at) (tally-length (λ i. i.freed) (map inflight_at flying)) in
    let next : at 8 w ≤ bound used = leb-true _ _ f.1.1.1.1.1.1.1.1.1.0 in
    let generation : at 12 w ≤ bound used = leb-true _ _ f.1.1.1.1.1.1.1.1.1.1.0 in
    and_both _ _ (le-leb (at 13 w) (at 14 w) (omega arith)) (and_both _ _ (le-leb (at 8 w) 72057594037927937 (omega arith)) (le-leb (at 12 w) 72057594037927937 (omega arith)))

subs-fit : (k : Kind) (used : ℕ) → used ≤ 2 ^ 40 → (ws rows : List Row) → all (sub_sound k used) (subs_at k ws rows) ≡ true → all fitting ws ≡ true
unfolding each_sub
subs-fit k used u [] rows h = refl
subs-fit k used u (w ∷ ws) rows h =
    let n : length (take (inflight_count w) rows) ≤ inflight_count w = omega (arith, length-take (inflight_count w) rows) in
    and_both _ _ (sub-fits k used u w (take (inflight_count w) rows) (take (held_count w) (drop (inflight_count w) rows)) n (and_left _ _ h))
    (subs-fit k used u ws (drop (held_count w) (drop (inflight_count w) rows)) (and_right (sub_sound k used (sub_at k w (take (inflight_count w) rows) (take (held_count w) (drop (inflight_count w) rows)))) _ h))

-- the numbers of a destination that is sound, or is so with u calls used, fit
module _ (d : Head) (subs rows : List Row) (producers : List Id) (audits : List Audit) (u : ℕ) (s : sound (head_view (with_used_calls u d) subs rows producers audits) ≡ true) where
  pub view-fits : (events : ℕ) → 32 ≤ length subs → 512 ≤ length rows → 545 ≤ events → d.consumers ≤ 32 → d.used ≤ 512 → sub_rows (take d.consumers subs) + (d.reserved + d.waiting) ≡ d.used → d.events + d.used ≤ 512
      → d.calls_used ≤ u → Fits subs d (length rows) events
  unfolding sound head_view
  view-fits events ls lr le few used sum sent calls =
      let v = head_view (with_used_calls u d) subs rows producers audits in
      let t = every-all (sound_tests v) s in
      let limit : d.call_limit ≤ 2 ^ 40 = leb-true _ _ t.1.0 in
      let less : u ≤ d.call_limit = leb-true _ _ t.1.1.0 in
      let n : length v.subs ≤ 32 = leb-true _ _ t.1.1.1.1.0 in
      let turn : d.turn ≤ 32 = or_cases (ltb d.turn (length v.subs)) (eqb d.turn 0) t.1.1.1.1.1.1.1.1.1.1.1.1.1.1.0
      (λ e. omega (arith, ltb-true d.turn (length v.subs) e)) (λ e. omega (arith, eqb-true d.turn 0 e)) in
      let most : ℕ = bound u in
      let k = d.stats in
      let c = every-all (leb k.enqueued most ∷ leb k.dequeued most ∷ leb k.expired most ∷ leb k.discarded most ∷ leb k.dispatched most ∷ []) t.1.1.1.1.1.1.1.1.1.1.1.1.1.1.1.0 in
      record {
        subs-long = ls;
        rows_long = lr;
        events-long = le;
        consumers = few;
        turn = turn;
        reserved = omega arith;
        waiting = omega arith;
        used = used;
        sent = sent;
        calls = omega arith;
        enqueued = omega (arith, leb-true k.enqueued most c.0);
        dequeued = omega (arith, leb-true k.dequeued most c.1.0);
        expired = omega (arith, leb-true k.expired most c.1.1.0);
        discarded = omega (arith, leb-true k.discarded most c.1.1.1.0);
        dispatched = omega (arith, leb-true k.dispatched most c.1.1.1.1.0);
        rows-used = sum;
        fitted = subs-fit v.kind u (omega arith) (take d.consumers subs) rows t.1.1.1.1.1.1.1.1.1.1.1.0;
      }

-- buffers that are long enough
pub record Long (b : Buffers) (room : ℕ) : Type 0 where
  pub head : 8347 ≤ length b.head
  pub subs : 32 ≤ length b.subs
  pub rows : 512 ≤ length b.rows
  pub events : 545 ≤ room

pub not_short : (b : Buffers) (events : ℕ) → short (lengths_of b events) ≡ false → Long b events
unfolding short state_short
not_short b events h =
    let l = lengths_of b events in
    let s = or-no-left (state_short l) (ltb l.events 545) h in
    let t = or-no-right (ltb l.head 8347) (ltb l.subs 32 || ltb l.rows 512) s in
    record {
      head = ltb-false _ _ (or-no-left (ltb l.head 8347) (ltb l.subs 32 || ltb l.rows 512) s);
      subs = ltb-false _ _ (or-no-left (ltb l.subs 32) (ltb l.rows 512) t);
      rows = ltb-false _ _ (or-no-right (ltb l.subs 32) (ltb l.rows 512) t);
      events = ltb-false _ _ (or-no-right (state_short l) (ltb l.events 545) h);
    }

-- the rows in use, where there are no more than the table has
pub loaded-used : (h : List ℕ) (subs : List Row) → 8347 ≤ length h → sub_rows (take (at 12 h) subs) + (at 15 h + at 16 h) ≤ 512
    → loaded h subs ≡ head_of h (sub_rows (take (at 12 h) subs) + (at 15 h + at 16 h))
loaded-used h subs l u = loaded-long h subs l ∙ ap (head_of h) (omega arith)

module _ (b : Buffers) (events : ℕ) (long : Long b events) (s : sound_buffers b ≡ true) where
  abbrev h : List ℕ
  h = b.head

  counts : (at 12 h ≤ 32) × (at 13 h ≤ 32) × (at 14 h ≤ 8) × (used_rows b ≤ 512)
  unfolding sound_buffers formed
  counts =
      let f = every-all (leb (at 12 h) 32 ∷ leb (at 13 h) 32 ∷ leb (at 14 h) 8 ∷ leb (used_rows b) 512 ∷ rings_formed (at 14 h) (drop 113 h) ∷ strict b ∷ []) (and_left _ _ s) in
      (leb-true _ _ f.0, leb-true _ _ f.1.0, leb-true _ _ f.1.1.0, leb-true _ _ f.1.1.1.0)

  -- the numbers of sound buffers, as they are loaded, fit
  pub sound-facts : Fits b.subs (head_of h (used_rows b)) (length b.rows) events
  unfolding sound_buffers head_of
  sound-facts =
      let d : Head = head_of h (used_rows b) in
      let s' : sound (head_view d b.subs b.rows (ids_at (at 13 h) (drop 17 h)) (audits_at (at 14 h) (drop 113 h))) ≡ true = ap sound (loaded-view b.subs b.rows h (used_rows b)) ∙ and_right (formed b) _ s in
      view-fits d b.subs b.rows _ _ (at 3 h) s' events long.subs long.rows long.events counts.0 counts.3 refl (omega (arith, counts.3)) (omega arith)

  pub sound-loaded : loaded h b.subs ≡ head_of h (used_rows b)
  sound-loaded = loaded-used h b.subs long.head counts.3

  -- and strict
  pub sound-strict : strict_tables (head_of h (used_rows b)) b.subs b.rows ≡ true
  unfolding sound_buffers formed
  sound-strict =
      let f = every-all (leb (at 12 h) 32 ∷ leb (at 13 h) 32 ∷ leb (at 14 h) 8 ∷ leb (used_rows b) 512 ∷ rings_formed (at 14 h) (drop 113 h) ∷ strict b ∷ []) (and_left _ _ s) in
      loaded-strict b.subs b.rows h (used_rows b) f.1.1.1.1.1.0
