use mathlib.Core.Path.{◌≡◌, refl, sym, ◌∙◌, subst, subst⁻¹}
use mathlib.Core.Bool.{true}
use mathlib.Core.List.{[], ◌∷◌}
use Prim.Native.Nat.{◌+◌, ◌-◌}
use native.Mathlib.Nat.{le_refl}
use native.Mathlib.Omega.{arith}
use borrow.Author.Tests.{not-true, not-false}
use lib.ListN.{length}
use Rattle.definition.specs.Layout.{buffer_step}
use Rattle.definition.proofs.Tests.{and_both}
use Rattle.calls.specs.declared.Call.{Call}
use Rattle.definition_station.specs.Types.{RanLetters}
use Rattle.definition_station.specs.Layout.{part, is_open}
use Rattle.stationcalls.specs.Run.{letter_ok, shown_with, Roomy, RunsLetters, storing_on, running_on, places_on, last_of}
use Rattle.stationcalls.specs.Parts.{lent_all, CalledAt}
use Rattle.stationcalls.proofs.Whither.{place-hops, place-name, place-closed, place_here, place-on, last_turn, last-all}
use Rattle.stationcalls.proofs.Cycle.{runs-lost, lost-hops, lost-name, lost-closed, enqueued, stored-fits, runs-stored, runs-passed, lends-stay, shown-stays, passes, none_yet, all-run, letter-ok, store-room, one-more-run}
use Prim.Native.Nat.{ℕ, ◌<◌}
use Rattle.stationcalls.proofs.letters.+run_store.Goals as goal

below : (n : ℕ) → n + n < n + n + 1
below n = omega (arith)

falls-by : (n : ℕ) → ((n ≡ 0) → ⊥) → (n - 1) + (n - 1) + 1 < n + n
falls-by n f = omega (arith, f)

pub run-loop-i-init : goal.run-loop-i-init
run-loop-i-init t c =
    let a = c.args in
    (none_yet a.hops a.clock a.name a.letters.now a.n (lent_all a.heads.now a.subs.now a.rows.now a.own.now) a.events.now a.before.sent a.before.lost a.scratch.now c.requires.1 c.requires.2 c.requires.0 c.requires.3, refl)

pub run-store-ran-requires : goal.run-store-ran-requires
run-store-ran-requires t c =
    let a = c.args in
    let l = c.loop-i in
    let less = c.loop-i-test.true in
    (subst (λ (j : ℕ). a.hops + a.hops < j) c.decreases (below a.hops), (l.invariant.0.lends, letter-ok a.hops a.clock a.name a.letters.now a.n (lent_all a.heads.now a.subs.now a.rows.now a.own.now) a.events.now a.before.sent a.before.lost (lent_all l.heads l.subs l.rows a.own.now) l.events l.scratch l.ran.sent l.ran.lost l.i l.invariant.0 [] less, store-room a.hops a.clock a.name a.letters.now a.n (lent_all a.heads.now a.subs.now a.rows.now a.own.now) a.events.now a.before.sent a.before.lost (lent_all l.heads l.subs l.rows a.own.now) l.events l.scratch l.ran.sent l.ran.lost l.i l.invariant.0 [] less))

pub run-loop-i-preserved : goal.run-loop-i-preserved
run-loop-i-preserved t c =
    let a = c.args in
    let l = c.loop-i in
    let s = c.store-ran in (
      one-more-run a.hops a.clock a.name a.letters.now a.n (lent_all a.heads.now a.subs.now a.rows.now a.own.now) a.events.now a.before.sent a.before.lost (lent_all l.heads l.subs l.rows a.own.now) l.events l.scratch l.ran.sent l.ran.lost l.i l.invariant.0 [] c.loop-i-test.true (lent_all s.new.heads s.new.subs s.new.rows a.own.now) s.new.events s.new.scratch s.result.sent s.result.lost refl s.auto.scratch s.ensures.runs_letters,
      last_turn a.hops a.clock a.name a.letters.now a.n (shown_with (lent_all a.heads.now a.subs.now a.rows.now a.own.now) a.before.lost) a.before.place (shown_with (lent_all l.heads l.subs l.rows a.own.now) l.ran.lost) (shown_with (lent_all s.new.heads s.new.subs s.new.rows a.own.now) s.result.lost) l.ran.place s.result.place l.i [] l.invariant.1 c.loop-i-test.true c.requires.1 s.ensures.place_value s.ensures.runs_letters.shows,
    )

pub run-returns : goal.run-returns
run-returns t c =
    let a = c.args in
    let l = c.loop-i in record { runs_letters = all-run a.hops a.clock a.name a.letters.now a.n (lent_all a.heads.now a.subs.now a.rows.now a.own.now) a.events.now a.before.sent a.before.lost (lent_all l.heads l.subs l.rows a.own.now) l.events l.scratch l.ran.sent l.ran.lost l.i l.invariant.0 c.loop-i-test.false; place_value = last-all a.hops a.clock a.name a.letters.now a.n (shown_with (lent_all a.heads.now a.subs.now a.rows.now a.own.now) a.before.lost) a.before.place (shown_with (lent_all l.heads l.subs l.rows a.own.now) l.ran.lost) l.ran.place l.i l.invariant.1 c.loop-i-test.false l.invariant.0.few }

pub store-returns-then-hops-eq0 : goal.store-returns-then-hops-eq0
store-returns-then-hops-eq0 t c =
    let a = c.args in
    record { runs_letters = runs-lost (storing_on a.hops a.clock a.name a.letter (shown_with (lent_all a.heads.now a.subs.now a.rows.now a.own.now) a.before.lost)) (lent_all a.heads.now a.subs.now a.rows.now a.own.now) a.events.now a.before.sent a.before.lost c.one_more.result (lost-hops a.hops a.clock a.name a.letter (lent_all a.heads.now a.subs.now a.rows.now a.own.now) a.before.lost c.if-hops-eq0.true) c.one_more.ensures c.requires.0.sound; place_value = place-hops a.hops a.clock a.name a.letter (lent_all a.heads.now a.subs.now a.rows.now a.own.now) a.before.lost c.if-hops-eq0.true }

pub store-returns-then-name-gt7 : goal.store-returns-then-name-gt7
store-returns-then-name-gt7 t c =
    let a = c.args in
    record { runs_letters = runs-lost (storing_on a.hops a.clock a.name a.letter (shown_with (lent_all a.heads.now a.subs.now a.rows.now a.own.now) a.before.lost)) (lent_all a.heads.now a.subs.now a.rows.now a.own.now) a.events.now a.before.sent a.before.lost c.one_more-then-name-gt7.result (lost-name a.hops a.clock a.name a.letter (lent_all a.heads.now a.subs.now a.rows.now a.own.now) a.before.lost c.if-name-gt7.true) c.one_more-then-name-gt7.ensures c.requires.0.sound; place_value = place-name a.hops a.clock a.name a.letter (lent_all a.heads.now a.subs.now a.rows.now a.own.now) a.before.lost c.if-name-gt7.true }

pub store-returns-then-not-is_open : goal.store-returns-then-not-is_open
store-returns-then-not-is_open t c =
    let a = c.args in
    record { runs_letters = runs-lost (storing_on a.hops a.clock a.name a.letter (shown_with (lent_all a.heads.now a.subs.now a.rows.now a.own.now) a.before.lost)) (lent_all a.heads.now a.subs.now a.rows.now a.own.now) a.events.now a.before.sent a.before.lost c.one_more-then-not-is_open.result (lost-closed a.hops a.clock a.name a.letter (lent_all a.heads.now a.subs.now a.rows.now a.own.now) a.before.lost (omega (arith, c.if-name-gt7.false)) (sym c.is_open.ensures ∙ not-true _ c.if-not-is_open.true-raw)) c.one_more-then-not-is_open.ensures c.requires.0.sound; place_value = place-closed a.hops a.clock a.name a.letter (lent_all a.heads.now a.subs.now a.rows.now a.own.now) a.before.lost (omega (arith, c.if-name-gt7.false)) (sym c.is_open.ensures ∙ not-true _ c.if-not-is_open.true-raw) }

pub store-call-r-requires : goal.store-call-r-requires
store-call-r-requires t c =
    let a = c.args in
    record { is-place = omega (arith, c.if-name-gt7.false); heads-long = c.requires.0.heads-long; subs-long = c.requires.0.subs-long; rows_long = c.requires.0.rows_long }

pub store-run-requires : goal.store-run-requires
store-run-requires t c =
    let a = c.args in
    let k = c.call-r in
    let h : a.name < 8 = omega (arith, c.if-name-gt7.false) in
    let o : is_open a.name (lent_all a.heads.now a.subs.now a.rows.now a.own.now) ≡ true = sym c.is_open.ensures ∙ not-false _ c.if-not-is_open.false-raw in
    let b = (lent_all a.heads.now a.subs.now a.rows.now a.own.now) in
    let b' = lent_all k.new.heads k.new.subs k.new.rows a.own.now in
    let s' = k.new.events in
    let f = enqueued a.name a.clock a.letter a.heads.now k.new.heads a.subs.now k.new.subs a.rows.now k.new.rows a.own.now a.scratch.now s' k.result a.before.lost h o c.requires.0 c.requires.1
    (subst (λ (x : Call). CalledAt (buffer_step (part a.name b) (length a.scratch.now) x.code x.words) a.name b b' a.scratch.now s' k.result) c.call_of-c.ensures (k.ensures a.own.now)) in
    let z = c.if-r-ne0.true in
    let room = subst (λ (x : RanLetters). Roomy x a.before.sent a.events.now) (passes a.name a.clock a.letter a.heads.now k.new.heads a.subs.now k.new.subs a.rows.now k.new.rows a.own.now a.scratch.now s' k.result a.before.lost f z a.hops c.if-hops-eq0.false h o) c.requires.2 in (
      subst (λ (j : ℕ). (a.hops - 1) + (a.hops - 1) + 1 < j) c.decreases (falls-by a.hops c.if-hops-eq0.false),
      (
        lends-stay a.name a.clock a.letter a.heads.now k.new.heads a.subs.now k.new.subs a.rows.now k.new.rows a.own.now a.scratch.now s' k.result a.before.lost f z c.requires.0,
        le_refl 1,
        and_both (letter_ok a.clock a.letter) true c.requires.1 refl,
        subst⁻¹ (λ (n : ℕ). Roomy (running_on (a.hops - 1) a.clock n (a.letter ∷ []) (shown_with b' a.before.lost)) a.before.sent a.events.now) c.name-next.ensures room,
      ),
    )

pub store-returns-then-r-ne0 : goal.store-returns-then-r-ne0
store-returns-then-r-ne0 t c =
    let a = c.args in
    let k = c.call-r in
    let h : a.name < 8 = omega (arith, c.if-name-gt7.false) in
    let o : is_open a.name (lent_all a.heads.now a.subs.now a.rows.now a.own.now) ≡ true = sym c.is_open.ensures ∙ not-false _ c.if-not-is_open.false-raw in
    let b = (lent_all a.heads.now a.subs.now a.rows.now a.own.now) in
    let b' = lent_all k.new.heads k.new.subs k.new.rows a.own.now in
    let s' = k.new.events in
    let f = enqueued a.name a.clock a.letter a.heads.now k.new.heads a.subs.now k.new.subs a.rows.now k.new.rows a.own.now a.scratch.now s' k.result a.before.lost h o c.requires.0 c.requires.1
    (subst (λ (x : Call). CalledAt (buffer_step (part a.name b) (length a.scratch.now) x.code x.words) a.name b b' a.scratch.now s' k.result) c.call_of-c.ensures (k.ensures a.own.now)) in
    let z = c.if-r-ne0.true in
    let r = c.run in
    let b'' = lent_all r.new.heads r.new.subs r.new.rows a.own.now in record {
      runs_letters = runs-passed a.name a.clock a.letter a.heads.now k.new.heads a.subs.now k.new.subs a.rows.now k.new.rows a.own.now a.scratch.now s' k.result a.before.lost f z a.hops b'' a.events.now r.new.events a.before.sent r.result.sent r.result.lost c.if-hops-eq0.false h o
          (subst (λ (n : ℕ). RunsLetters (running_on (a.hops - 1) a.clock n (a.letter ∷ []) (shown_with b' a.before.lost)) b' b'' a.events.now r.new.events a.before.sent r.result.sent r.result.lost) c.name-next.ensures r.ensures.runs_letters);
      place_value = place-on a.clock a.name a.letter (lent_all a.heads.now a.subs.now a.rows.now a.own.now) a.before.lost h o a.hops b' a.before.place r.result.place c.if-hops-eq0.false (λ e. z (f.here.refusal ∙ e)) (shown-stays a.name a.clock a.letter a.heads.now k.new.heads a.subs.now k.new.subs a.rows.now k.new.rows a.own.now a.scratch.now s' k.result a.before.lost f z) (subst (λ (n : ℕ). r.result.place ≡ last_of a.before.place (places_on (a.hops - 1) a.clock n (a.letter ∷ []) (shown_with b' a.before.lost))) c.name-next.ensures r.ensures.place_value);
    }

pub store-tell-sent-requires : goal.store-tell-sent-requires
store-tell-sent-requires t c =
    let a = c.args in
    let k = c.call-r in
    let h : a.name < 8 = omega (arith, c.if-name-gt7.false) in
    let o : is_open a.name (lent_all a.heads.now a.subs.now a.rows.now a.own.now) ≡ true = sym c.is_open.ensures ∙ not-false _ c.if-not-is_open.false-raw in
    let b = (lent_all a.heads.now a.subs.now a.rows.now a.own.now) in
    let b' = lent_all k.new.heads k.new.subs k.new.rows a.own.now in
    let s' = k.new.events in
    let f = enqueued a.name a.clock a.letter a.heads.now k.new.heads a.subs.now k.new.subs a.rows.now k.new.rows a.own.now a.scratch.now s' k.result a.before.lost h o c.requires.0 c.requires.1
    (subst (λ (x : Call). CalledAt (buffer_step (part a.name b) (length a.scratch.now) x.code x.words) a.name b b' a.scratch.now s' k.result) c.call_of-c.ensures (k.ensures a.own.now)) in
    stored-fits a.name a.clock a.letter a.heads.now k.new.heads a.subs.now k.new.subs a.rows.now k.new.rows a.own.now a.scratch.now s' k.result a.before.lost a.hops a.events.now a.before.sent c.if-hops-eq0.false h o f c.if-r-ne0.false c.requires.2

pub store-returns : goal.store-returns
store-returns t c =
    let a = c.args in
    let k = c.call-r in
    let h : a.name < 8 = omega (arith, c.if-name-gt7.false) in
    let o : is_open a.name (lent_all a.heads.now a.subs.now a.rows.now a.own.now) ≡ true = sym c.is_open.ensures ∙ not-false _ c.if-not-is_open.false-raw in
    let b = (lent_all a.heads.now a.subs.now a.rows.now a.own.now) in
    let b' = lent_all k.new.heads k.new.subs k.new.rows a.own.now in
    let s' = k.new.events in
    let f = enqueued a.name a.clock a.letter a.heads.now k.new.heads a.subs.now k.new.subs a.rows.now k.new.rows a.own.now a.scratch.now s' k.result a.before.lost h o c.requires.0 c.requires.1
    (subst (λ (x : Call). CalledAt (buffer_step (part a.name b) (length a.scratch.now) x.code x.words) a.name b b' a.scratch.now s' k.result) c.call_of-c.ensures (k.ensures a.own.now)) in
    let e = c.tell-sent in record { runs_letters = runs-stored a.name a.clock a.letter a.heads.now k.new.heads a.subs.now k.new.subs a.rows.now k.new.rows a.own.now a.scratch.now s' k.result a.before.lost a.hops a.events.now e.new.events a.before.sent e.result c.if-hops-eq0.false h o c.requires.0.sound f c.if-r-ne0.false f.here.past.events-length c.requires.2 e.ensures.value e.ensures.events_after; place_value = place_here a.clock a.name a.letter (lent_all a.heads.now a.subs.now a.rows.now a.own.now) a.before.lost h o a.hops c.if-hops-eq0.false (sym f.here.refusal ∙ c.if-r-ne0.false) }
