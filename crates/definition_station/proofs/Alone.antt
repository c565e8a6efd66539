-- Codes 4 to 7 on a sound station: the destination's own call, and where it makes no dead letter nothing else. Assumes nothing.
use Prim.Native.Nat.{ℕ, ◌≤◌}
use native.Mathlib.Omega.{arith}
use mathlib.Core.Path.{◌≡◌, refl, sym, ◌∙◌, ap, subst, subst⁻¹}
use mathlib.Core.Bool.{Bool, true, false, not, ◌&&◌, ◌||◌, true≢false}
use mathlib.Core.List.{List, [], ◌∷◌, ◌++◌, map, append-nil}
use mathlib.Core.Option.{Option, none, some}
use lib.Dec.{ltb, eqb}
use lib.IntN.{ℤ}
use lib.ListN.{drop}
use borrow.Author.Tests.{eqb-true, eqb-false, ne_eqb, le-ltb}
use Rattle.definition.specs.Base.{whether◌then◌else◌, all, is_some}
use Rattle.definition.specs.Types.{Entry, Dest, Event, letter, message, null}
use Rattle.definition.specs.Calls.{Lengths, state_short, short, Call, Result, refused, refusal, call}
use Rattle.definition.specs.Words.{at, decode, call_step, step}
use Rattle.definition.specs.Orders.{Lent, Reply, result}
use Rattle.definition.proofs.Tests.{by-test, if-true, if-false, and_left, and_right, and_both}
use Rattle.definition.proofs.Made.{step_call}
use Rattle.definition.proofs.Refusals.{step_kept}
use Rattle.definition_station.specs.Types.{StationSlot, Station, slot_of, put_dest, took_number, sent_at}
use Rattle.definition_station.specs.Letters.{rejected, clock_of, number_letters, whole, running}
use Rattle.definition_station.specs.Station.{station_short, station_sound, StationResult, station_refused, carried, accepted_at, call_on, station_call_at, not_there, open_at, station_step}
use Rattle.definition_station.specs.Orders.{StationCall, StationReply, station_result, station_reply, is_dead_letter, makes_none}
use Rattle.definition_station.specs.Claims.{letters_in}
use Rattle.definition_station.proofs.Places.{facts, place_in, put_same}
use Rattle.definition_station.proofs.Quiet.{letters-sent}

-- ---- the call as its destination gets it

abbrev too_short : Lengths
too_short = record { head = 0; subs = 0; rows = 0; events = 0 }

abbrev pub down : StationCall → Lent
down c = record { code = c.code; words = c.words; lengths = whether station_short c.lengths then too_short else whole }

abbrev pub lifted : ℕ → Reply → StationReply
lifted j r = record { refusal = r.refusal; answer = r.answer; events = sent_at j r.events }

-- no `x` among the events
abbrev pub no_x : List Event → Bool
no_x es = all (λ e. not (is_dead_letter e)) es

short-call : (t : Dest) (o : Option Call) → call_step too_short t o ≡ refused 1 t
unfolding call_step call refusal short state_short
short-call t none = refl
short-call t (some c) = refl

pub no-letters : (es : List Event) → no_x es ≡ true → letters_in es ≡ []
no-letters [] h = refl
no-letters (letter q r c ∷ es) h = absurd (true≢false (sym h))
no-letters (message i q r ∷ es) h = no-letters es h
no-letters (null i ∷ es) h = no-letters es h

pub no-shown : (es : List Entry) → map {B = ℕ × ℤ} (λ e. (e.seq, e.redelivery)) es ≡ [] → es ≡ []
no-shown [] h = refl
no-shown (e ∷ es) h = absurd (let z : ◌≡◌ {A = ℕ} 0 1 = cc in omega arith)

pub all_left : {A : Type 0} (p : A → Bool) (l m : List A) → all p (l ++ m) ≡ true → all p l ≡ true
all_left p [] m h = refl
all_left p (a ∷ l) m h = and_both (p a) _ (and_left (p a) _ h) (all_left p l m (and_right (p a) _ h))

pub all-sent : (k : ℕ) (es : List Event) → all (λ v. not (is_dead_letter v.event)) (sent_at k es) ≡ no_x es
all-sent k [] = refl
all-sent k (e ∷ es) = ap (λ (b : Bool). not (is_dead_letter e) && b) (all-sent k es)

-- ---- a call on an open place of a sound station

module _ (c : StationCall) (s : Station) (x : StationSlot) (y : station_sound s ≡ true) (q : slot_of c.place s ≡ some x) (low : 4 ≤ c.code) where
  there : not_there c.place c.code s ≡ false
  there = both (ltb 7 c.place) (not (eqb c.code 0)) (is_some (slot_of c.place s)) (le-ltb 7 c.place (omega (arith, place_in c.place s x q, (facts s y).eight))) (ap is_some q)
    where
      both : (a b d : Bool) → a ≡ false → d ≡ true → (a || (b && not d)) ≡ false
      both a true d e f = rw (e, f)
      both a false d e f = rw e

  calls : station_short c.lengths ≡ false → station_result c s ≡ call_on c.place c.code c.words s x
  unfolding station_step station_call_at
  calls r =
      if-false _ _ r
      ∙ if-false _ _ there
      ∙ if-false _ _ (sound-passes (not (eqb c.code 0)) (station_sound s) y)
      ∙ if-false (open_at c.place c.words s) (station_call_at c.place c.code c.words s (slot_of c.place s)) (ne_eqb c.code 0 (λ e. omega (arith, low)))
      ∙ ap (station_call_at c.place c.code c.words s) q
    where
      sound-passes : (a b : Bool) → b ≡ true → (a && not b) ≡ false
      sound-passes true b e = ap not e
      sound-passes false b e = refl

  no-enqueue : eqb c.code 1 ≡ false
  no-enqueue = ne_eqb c.code 1 (λ e. omega (arith, low))

  -- refused as its destination refuses it, or accepted
  pub data Does : Type 0 where
    refuses : (n : ℕ) → station_result c s ≡ station_refused n s → result (down c) x.dest ≡ refused n x.dest → Does
    makes : station_result c s ≡ accepted_at c.place c.code x (result (down c) x.dest) (rejected x.dest (decode c.code c.words)) (clock_of (decode c.code c.words)) s →
        (step whole c.code c.words x.dest).refusal ≡ 0 → result (down c) x.dest ≡ step whole c.code c.words x.dest → Does

  abbrev done : List ℕ → StationResult
  done ws =
      let r = step whole c.code ws x.dest in
      whether eqb r.refusal 0 then accepted_at c.place c.code x r (rejected x.dest (decode c.code ws)) (clock_of (decode c.code ws)) s else station_refused r.refusal s

  on : call_on c.place c.code c.words s x ≡ done c.words
  unfolding call_on
  on = if-false (station_refused 3 s) (done (carried c.code c.words s)) (ap (λ (b : Bool). b && not (eqb (at 0 c.words) 0)) no-enqueue) ∙ ap done (if-false (s.next ∷ drop 1 c.words) c.words no-enqueue)

  long : station_short c.lengths ≡ false → result (down c) x.dest ≡ step whole c.code c.words x.dest
  long r = ap (λ (l : Lengths). step l c.code c.words x.dest) (if-false too_short whole r)

  does-long : station_short c.lengths ≡ false → Does
  does-long r = by-test (eqb (step whole c.code c.words x.dest).refusal 0)
      (λ e. makes (calls r ∙ on ∙ if-true _ _ e ∙ ap (λ (o : Result). accepted_at c.place c.code x o (rejected x.dest (decode c.code c.words)) (clock_of (decode c.code c.words)) s) (sym (long r))) (eqb-true _ 0 e) (long r))
      (λ e. refuses (step whole c.code c.words x.dest).refusal (calls r ∙ on ∙ if-false _ _ e) (long r ∙ step_kept whole c.code c.words x.dest (eqb-false _ 0 e)))

  does : Does
  unfolding station_step
  does = by-test (station_short c.lengths)
      (λ r. refuses 1 (if-true _ _ r) (ap (λ (l : Lengths). step l c.code c.words x.dest) (if-true too_short whole r) ∙ step_call too_short c.code c.words x.dest (omega (arith, low)) ∙ short-call x.dest (decode c.code c.words)))
      does-long

  -- ---- where it makes no dead letter

  abbrev lift : Result → StationResult
  lift r = record { refusal = r.refusal; answer = r.answer; events = sent_at c.place r.events; station = put_dest c.place x r.dest s }

  none-rejected : (step whole c.code c.words x.dest).refusal ≡ 0 → no_x (step whole c.code c.words x.dest).events ≡ true → rejected x.dest (decode c.code c.words) ≡ []
  none-rejected h n = no-shown _ (sym (letters-sent c.code c.words x.dest (omega (arith, low)) h) ∙ no-letters (step whole c.code c.words x.dest).events n)

  lift-refused : (n : ℕ) → station_refused n s ≡ lift (refused n x.dest)
  lift-refused n = let e = sym (put_same c.place s x q) in λ i. record { refusal = n; answer = 0; events = []; station = e i }

  lift-accepted : (r : Result) (now : ℕ) → r.refusal ≡ 0 → accepted_at c.place c.code x r [] now s ≡ lift r
  unfolding accepted_at number_letters running
  lift-accepted r now z =
      let e = sym z in
      let f = append-nil (sent_at c.place r.events) in
      let g = if-false (took_number (put_dest c.place x r.dest s)) (put_dest c.place x r.dest s) no-enqueue in
      λ i. record { refusal = e i; answer = r.answer; events = f i; station = g i }

  one-by : no_x (result (down c) x.dest).events ≡ true → Does → station_result c s ≡ lift (result (down c) x.dest)
  one-by n (refuses m e f) = e ∙ lift-refused m ∙ ap lift (sym f)
  one-by n (makes e h f) =
      let l = none-rejected h (subst (λ (r : Result). no_x r.events ≡ true) f n) in
      e ∙ ap (λ (l : List Entry). accepted_at c.place c.code x (result (down c) x.dest) l (clock_of (decode c.code c.words)) s) l ∙ lift-accepted (result (down c) x.dest) (clock_of (decode c.code c.words)) (ap (λ (r : Result). r.refusal) f ∙ h)

  pub touches-one : no_x (result (down c) x.dest).events ≡ true → station_result c s ≡ lift (result (down c) x.dest)
  touches-one n = one-by n does

  hears-by : makes_none (station_reply c s) ≡ true → Does → no_x (result (down c) x.dest).events ≡ true
  unfolding accepted_at
  hears-by n (refuses m e f) = subst⁻¹ (λ (r : Result). no_x r.events ≡ true) f refl
  hears-by n (makes e h f) = sym (all-sent c.place (result (down c) x.dest).events) ∙ all_left _ (sent_at c.place (result (down c) x.dest).events) _ (subst (λ (r : StationResult). all (λ v. not (is_dead_letter v.event)) r.events ≡ true) e n)

  pub hears : makes_none (station_reply c s) ≡ true → no_x (result (down c) x.dest).events ≡ true
  hears n = hears-by n does
