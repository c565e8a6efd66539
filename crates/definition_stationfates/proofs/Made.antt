-- Each destination is after an accepted call what the calls that it gets make of it. Assumes nothing.
use Prim.Native.Nat.{ℕ, ◌≤◌}
use mathlib.Core.Path.{◌≡◌, refl, sym, ◌∙◌, ap, subst, subst⁻¹}
use mathlib.Core.List.{List, [], ◌∷◌, ◌++◌, map, map-append}
use mathlib.Core.Option.{Option, none, some}
use lib.Dec.{eqb}
use borrow.Author.Tests.{eqb-true, eqb-false}
use Rattle.definition.specs.Base.{keep}
use Rattle.definition.specs.Types.{Entry, Dest}
use Rattle.definition.specs.Calls.{Call, enqueuing, Result, call}
use Rattle.definition.specs.Words.{call_step, step}
use Rattle.definition.proofs.Tests.{by-if, by-test}
use Rattle.definition.proofs.Made.{step_call, none-refused}
use Rattle.definition.proofs.Reorder.{keep_append, keep-yes, keep-no}
use Rattle.definition_station.specs.Types.{StationSlot, with_dest, Station, slot_of, put_dest, took_number}
use Rattle.definition_station.specs.Letters.{rejected, clock_of, Numbered, whole, storing, running, hops_max}
use Rattle.definition_station.specs.Station as Station
use Rattle.definition_station.specs.Station.{StationResult, carried}
use Rattle.definition_station.proofs.Places.{place-put, place_other}
use Rattle.definition_station.proofs.Sound.{passed}
use Rattle.definition_stationfates.specs.Books.{Gets, gets_call, letter_gets, letters_get, own_gets, call_said, call_letters, gets_at, calls_got, Makes, MakesAt, CallsAreMade}
use Rattle.definition_stationfates.proofs.Books.{number-slots}
use Rattle.definition_stationfates.proofs.Letters.{Went, lost, kept, letter-went}

pub got-join : (j : ℕ) (g h : List Gets) → calls_got j (g ++ h) ≡ calls_got j g ++ calls_got j h
got-join j g h = ap (map (λ v. v.call)) (keep_append (λ v. eqb v.place j) g h) ∙ map-append (λ v. v.call) (keep (λ v. eqb v.place j) g) (keep (λ v. eqb v.place j) h)

-- ---- calls one after another

makes-join : (cs ds : List Call) (t u v : Dest) → Makes cs t u → Makes ds u v → Makes (cs ++ ds) t v
makes-join [] ds t u v p q = subst (λ (w : Dest). Makes ds w v) p q
makes-join (c ∷ cs) ds t u v p q = (p.0, makes-join cs ds (call whole c t).dest u v p.1 q)

-- the same name
at_join : (cs ds : List Call) (o p q : Option StationSlot) → MakesAt cs o p → MakesAt ds p q → MakesAt (cs ++ ds) o q
at_join cs ds none p q a b =
    let c = subst (λ (w : Option StationSlot). MakesAt ds w q) a.1 b in
    (ap (λ (l : List Call). l ++ ds) a.0 ∙ c.0, c.1)
at_join cs ds (some x) p q a b =
    let c = subst (λ (w : Option StationSlot). MakesAt ds w q) a.1 b in
    (c.0, c.1, makes-join cs ds x.dest a.0 c.0 a.2 c.2)

at_rest : (o : Option StationSlot) → MakesAt [] o o
at_rest none = (refl, refl)
at_rest (some x) = (x.dest, refl, refl)

-- one destination gets an accepted call
one-made : (j k : ℕ) (x : StationSlot) (c : Call) (s : Station) → slot_of k s ≡ some x → (call whole c x.dest).refusal ≡ 0 → MakesAt (calls_got j (gets_call k c x.dest ∷ [])) (slot_of j s) (slot_of j (put_dest k x (call whole c x.dest).dest s))
one-made j k x c s q h = by-test (eqb k j)
    (λ d. subst⁻¹ (λ (l : List Gets). MakesAt (map (λ g. g.call) l) (slot_of j s) (slot_of j put)) (keep-yes (λ g. eqb g.place j) gets [] d) (here (eqb-true k j d)))
    (λ d. subst⁻¹ (λ (l : List Gets). MakesAt (map (λ g. g.call) l) (slot_of j s) (slot_of j put)) (keep-no (λ g. eqb g.place j) gets [] d)
    (subst⁻¹ (λ (o : Option StationSlot). MakesAt [] (slot_of j s) o) (place_other k j s _ (λ e. eqb-false k j d (sym e))) (at_rest (slot_of j s))))
  where
    gets : Gets
    gets = gets_call k c x.dest

    put : Station
    put = put_dest k x (call whole c x.dest).dest s

    here : k ≡ j → MakesAt (c ∷ []) (slot_of j s) (slot_of j put)
    here e = subst (λ (n : ℕ). MakesAt (c ∷ []) (slot_of n s) (slot_of n put)) e
        (subst⁻¹ (λ (o : Option StationSlot). MakesAt (c ∷ []) o (slot_of k put)) q ((call whole c x.dest).dest, place-put k s x (some (with_dest (call whole c x.dest).dest x)) q, (h, refl)))

-- ---- dead letters

went-made : (j now : ℕ) (e : Entry) (s : Station) (p : ℕ) (g : List Gets) (u : Station) → Went now e s p g u → MakesAt (calls_got j g) (slot_of j s) (slot_of j u)
went-made j now e s p g u lost = at_rest (slot_of j s)
went-made j now e s p g u (kept k x q h) = one-made j k x (enqueuing e now) s q h

letters-made : (j hops now k : ℕ) (es : List Entry) (s : Station) → MakesAt (calls_got j (letters_get hops now k es s)) (slot_of j s) (slot_of j (running hops now k es s).station)
unfolding letters_get running
letters-made j hops now k [] s = at_rest (slot_of j s)
letters-made j hops now k (e ∷ es) s =
    let u : Station = (storing hops now k e s).station in
    subst⁻¹ (λ (l : List Call). MakesAt l (slot_of j s) (slot_of j (running hops now k es u).station)) (got-join j (letter_gets hops now k e s) (letters_get hops now k es u))
    (at_join _ _ (slot_of j s) (slot_of j u) _ (went-made j now e s _ _ _ (letter-went hops now k e s)) (letters-made j hops now k es u))

-- ---- the call

module _ (j k code : ℕ) (ws : List ℕ) (s : Station) (x : StationSlot) (q : slot_of k s ≡ some x) where
  own-made : (o : Option Call) → (call_step whole x.dest o).refusal ≡ 0 → MakesAt (calls_got j (own_gets k o x.dest)) (slot_of j s) (slot_of j (Station.called k code x (call_step whole x.dest o).dest s))
  unfolding call_step
  own-made none h = absurd (none-refused whole x.dest h)
  own-made (some c) h =
      let put : Station = put_dest k x (call whole c x.dest).dest s in
      by-if (λ (u : Station). MakesAt (calls_got j (gets_call k c x.dest ∷ [])) (slot_of j s) (slot_of j u)) (eqb code 1) (took_number put) put (λ d. one-made j k x c s q h) (λ d. one-made j k x c s q h)

  done-made : 1 ≤ code → (step whole code (carried code ws s) x.dest).refusal ≡ 0
      → MakesAt (calls_got j (gets_at k code ws s (some x))) (slot_of j s) (slot_of j (Station.accepted_at k code x (step whole code (carried code ws s) x.dest) (rejected x.dest (call_said code ws s)) (clock_of (call_said code ws s)) s).station)
  unfolding gets_at Station.accepted_at
  done-made n h =
      let e = step_call whole code (carried code ws s) x.dest n in
      let m : Numbered = call_letters k code ws s x in
      let u : Station = Station.called k code x (step whole code (carried code ws s) x.dest).dest s in
      let now : ℕ = clock_of (call_said code ws s) in
      let own = subst⁻¹ (λ (r : Result). MakesAt (calls_got j (own_gets k (call_said code ws s) x.dest)) (slot_of j s) (slot_of j (Station.called k code x r.dest s))) e (own-made (call_said code ws s) (ap (λ (r : Result). r.refusal) (sym e) ∙ h)) in
      let same : slot_of j m.station ≡ slot_of j u = ap (λ l. slot_of j (record { slots = l; next = 0; lost = 0 })) (number-slots (rejected x.dest (call_said code ws s)) u) in
      subst⁻¹ (λ (l : List Call). MakesAt l (slot_of j s) (slot_of j (running hops_max now x.name m.letters m.station).station)) (got-join j (own_gets k (call_said code ws s) x.dest) (letters_get hops_max now x.name m.letters m.station))
      (at_join _ _ (slot_of j s) (slot_of j m.station) _ (subst⁻¹ (λ (o : Option StationSlot). MakesAt (calls_got j (own_gets k (call_said code ws s) x.dest)) (slot_of j s) o) same own) (letters-made j hops_max now x.name m.letters m.station))

pub calls-are-made : CallsAreMade
calls-are-made lent k code ws s n h j =
    let p = passed lent k code ws s n h in
    subst⁻¹ (λ (r : StationResult). MakesAt (calls_got j (gets_at k code ws s (slot_of k s))) (slot_of j s) (slot_of j r.station)) p.result
    (subst⁻¹ (λ (o : Option StationSlot). MakesAt (calls_got j (gets_at k code ws s o)) (slot_of j s) (slot_of j (Station.accepted_at k code p.slot (step whole code (carried code ws s) p.slot.dest) (rejected p.slot.dest (call_said code ws s)) (clock_of (call_said code ws s)) s).station)) p.there
    (done-made j k code ws s p.slot p.there n p.own))
