-- The test whether the scan can run: sums as the code compares them, and the facts that it stands for. Assumes nothing.
use mathlib.Core.Path.{◌≡◌, sym, ◌∙◌}
use mathlib.Core.Bool.{Bool, true, ◌&&◌}
use mathlib.Core.List.{List, [], ◌∷◌}
use Prim.Native.Nat.{ℕ, ◌+◌, ◌≤◌, ◌^◌, min}
use native.Mathlib.Omega.{arith}
use borrow.Author.Tests.{leb-true, eqb-true, eqb-false, le-leb, eq-eqb, ne_eqb}
use lib.Dec.{leb, eqb}
use lib.ListN.{length, take}
use Rattle.words.proofs.Tests.{by-test}
use Rattle.definition.specs.Base.{all, every}
use Rattle.definition.specs.Words.{at}
use Rattle.definition.specs.Layout.{Row, sub_rows}
use Rattle.definition.proofs.Tests.{and_left, and_right, and_both}
use Rattle.definition.proofs.Thin.{every-all, all-every}
use Rattle.consumers.proofs.Strict.{all_weaker}
use Rattle.state.specs.declared.Head.{Head}
use Rattle.consumers.specs.Table.{next_fits}
use Rattle.queues.specs.Scan.{scan_tables, scan_counters, rows_fit, next_room, scans, Scans}

-- a sum up to 513 is no more than 512 only where it is the sum
pub eqb-capped : (a b u : ℕ) → u ≤ 512 → eqb (min 513 a + b) u ≡ eqb (a + b) u
eqb-capped a b u h = by-test (eqb (a + b) u)
    (λ t. eq-eqb (min 513 a + b) u (omega (arith, eqb-true (a + b) u t)) ∙ sym t)
    (λ t. ne_eqb (min 513 a + b) u (λ e. eqb-false (a + b) u t (omega arith)) ∙ sym t)

module _ (now : ℕ) (subs : List Row) (d : Head) (rows events : ℕ) where
  abbrev tables : List Bool
  tables = leb 32 (length subs) ∷ leb 512 rows ∷ leb d.consumers 32 ∷ leb d.turn 32 ∷ leb (d.events + d.waiting) events ∷ []

  abbrev tests : List Bool
  tests = leb now (2 ^ 62) ∷ d.queue ∷ every tables ∷ scan_counters d.stats ∷ rows_fit subs d ∷ all next_fits (take d.consumers subs) ∷ []

  -- test by test
  pub scans-by : {a b t u v : Bool} → leb now (2 ^ 62) ≡ a → d.queue ≡ b → scan_tables d (length subs) rows events ≡ t → scan_counters d.stats ≡ u → rows_fit subs d ≡ v
      → scans now subs d rows events ≡ (a && (b && (t && (u && (v && (all next_fits (take d.consumers subs) && true))))))
  unfolding scans
  scans-by p q r s e = λ j. p j && (q j && (r j && (s j && (e j && (all next_fits (take d.consumers subs) && true)))))

  pub tables-long : scan_tables d (length subs) rows events ≡ true → d.consumers ≤ length subs
  tables-long h = let f = every-all tables h in omega (arith, leb-true 32 (length subs) f.0, leb-true d.consumers 32 f.1.1.0)

  -- as facts
  pub scans-facts : scans now subs d rows events ≡ true → Scans subs d rows events × (now ≤ 2 ^ 62)
  unfolding scans
  scans-facts h =
      let f = every-all tests h in
      let t = every-all tables f.1.1.0 in
      let counters = f.1.1.1.0 in
      let used : d.used ≤ 512 = leb-true d.used 512 (and_left (leb d.used 512) _ f.1.1.1.1.0) in
      let rows-used : sub_rows (take d.consumers subs) + (d.reserved + d.waiting) ≡ d.used = eqb-true _ d.used (and_right (leb d.used 512) _ f.1.1.1.1.0) in
      let expired : d.stats.expired + 512 ≤ 2 ^ 63 = leb-true _ (2 ^ 63) (and_left (leb (d.stats.expired + 512) (2 ^ 63)) _ counters) in
      let dispatched : d.stats.dispatched + 512 ≤ 2 ^ 63 = leb-true _ (2 ^ 63) (and_right (leb (d.stats.expired + 512) (2 ^ 63)) _ counters) in (
        record {
          queue = f.1.0;
          consumers = leb-true d.consumers 32 t.1.1.0;
          subs-long = leb-true 32 (length subs) t.0;
          rows-used = rows-used;
          used = used;
          rows_long = leb-true 512 rows t.1.0;
          events = leb-true (d.events + d.waiting) events t.1.1.1.1.0;
          expired = omega arith;
          dispatched = omega arith;
          turn = leb-true d.turn 32 t.1.1.1.0;
          next = all_weaker next_fits (next_room d.waiting) (λ w e. le-leb (at 8 w + d.waiting) (2 ^ 63) (omega (arith, leb-true (at 8 w) (2 ^ 62) e))) (take d.consumers subs) f.1.1.1.1.1.0;
        },
        leb-true now (2 ^ 62) f.0,
      )

  -- and back
  pub scans-yes : now ≤ 2 ^ 62 → d.queue ≡ true → 32 ≤ length subs → 512 ≤ rows → d.consumers ≤ 32 → d.turn ≤ 32 → d.events + d.waiting ≤ events
      → d.stats.expired + 512 ≤ 2 ^ 63 → d.stats.dispatched + 512 ≤ 2 ^ 63
      → d.used ≤ 512 → sub_rows (take d.consumers subs) + (d.reserved + d.waiting) ≡ d.used → all next_fits (take d.consumers subs) ≡ true
      → scans now subs d rows events ≡ true
  unfolding scans
  scans-yes clock queue sl rl cs turn room expired dispatched used rows-used next =
      let t = all-every tables (le-leb 32 (length subs) sl, (le-leb 512 rows rl, (le-leb d.consumers 32 cs, (le-leb d.turn 32 turn, (le-leb (d.events + d.waiting) events room, tt))))) in
      let c = and_both _ _ (le-leb (d.stats.expired + 512) (2 ^ 63) expired) (le-leb (d.stats.dispatched + 512) (2 ^ 63) dispatched) in
      let u = and_both _ _ (le-leb d.used 512 used) (eq-eqb _ d.used rows-used) in
      all-every tests (le-leb now (2 ^ 62) clock, (queue, (t, (c, (u, (next, tt))))))
