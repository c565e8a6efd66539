-- What a call of a station writes into the book of a destination is what leaves in the calls that the destination gets, one after another. Assumes nothing.
use Prim.Native.Nat.{ℕ, ◌≤◌}
use mathlib.Core.Path.{◌≡◌, refl, sym, ◌∙◌, ap, subst, subst⁻¹}
use mathlib.Core.List.{List, [], ◌∷◌, ◌++◌, append-nil, append_assoc}
use mathlib.Core.Option.{Option, none, some}
use lib.Dec.{eqb}
use borrow.Author.Tests.{eqb-true, eqb-false}
use Rattle.definition.specs.Types.{Entry, Dest}
use Rattle.definition.specs.Calls.{Call, enqueuing, Result, call}
use Rattle.definition.specs.Words.{call_step, step}
use Rattle.definition.proofs.Tests.{by-if, by-test}
use Rattle.definition.proofs.Lists.{some_inj}
use Rattle.definition.proofs.Made.{step_call, none-refused}
use Rattle.fates.specs.Fates.{Departure, departures}
use Rattle.definition_station.specs.Types.{StationSlot, with_dest, Station, slot_of, put_dest, took_number}
use Rattle.definition_station.specs.Letters.{rejected, clock_of, Numbered, whole, storing, running, hops_max}
use Rattle.definition_station.specs.Station as Station
use Rattle.definition_station.specs.Station.{StationLengths, carried, station_step}
use Rattle.definition_station.proofs.Places.{place-put, place_other}
use Rattle.definition_station.proofs.Sound.{passed}
use Rattle.definition_stationfates.specs.Books.{Gets, gets_call, letter_gets, letters_get, own_gets, call_said, call_letters, gets_at, call_gets, calls_got, Book, notes, book_after}
use Rattle.definition_stationfates.proofs.Books.{notes-join, number-slots}
use Rattle.definition_stationfates.proofs.Letters.{Went, lost, kept, letter-went}
use Rattle.definition_stationfates.proofs.Made.{got-join}
use Rattle.definition_stationblocks.specs.StationBlocks.{gone_along}

-- the destination after calls that are all accepted
abbrev ends : List Call → Dest → Dest
ends [] t = t
ends (c ∷ cs) t = ends cs (call whole c t).dest

gone-join : (cs ds : List Call) (t : Dest) → gone_along (cs ++ ds) t ≡ gone_along cs t ++ gone_along ds (ends cs t)
gone-join [] ds t = refl
gone-join (c ∷ cs) ds t =
    ap (λ (l : List Departure). departures c t (call whole c t).dest ++ l) (gone-join cs ds (call whole c t).dest)
    ∙ sym (append_assoc (departures c t (call whole c t).dest) (gone_along cs (call whole c t).dest) (gone_along ds (ends cs (call whole c t).dest)))

-- of j, which is x before and y after
record Linked (j : ℕ) (gs : List Gets) (x y : StationSlot) : Type 0 where
  to : y.dest ≡ ends (calls_got j gs) x.dest
  writes : (b : Book) → (notes j gs b).gone ≡ b.gone ++ gone_along (calls_got j gs) x.dest

ends_join : (cs ds : List Call) (t : Dest) → ends (cs ++ ds) t ≡ ends ds (ends cs t)
ends_join [] ds t = refl
ends_join (c ∷ cs) ds t = ends_join cs ds (call whole c t).dest

linked-none : (j : ℕ) (x : StationSlot) → Linked j [] x x
linked-none j x = record { to = refl; writes = λ b. sym (append-nil b.gone) }

linked-join : (j : ℕ) (g h : List Gets) (x y z : StationSlot) → Linked j g x y → Linked j h y z → Linked j (g ++ h) x z
linked-join j g h x y z p q = record {
  to = q.to ∙ ap (ends (calls_got j h)) p.to ∙ sym (ends_join (calls_got j g) (calls_got j h) x.dest) ∙ ap (λ (l : List Call). ends l x.dest) (sym (got-join j g h));
  writes = λ b. ap (λ (d : Book). d.gone) (notes-join j g h b)
      ∙ q.writes (notes j g b)
      ∙ ap (λ (l : List Departure). l ++ gone_along (calls_got j h) y.dest) (p.writes b)
      ∙ append_assoc b.gone (gone_along (calls_got j g) x.dest) (gone_along (calls_got j h) y.dest)
      ∙ ap (λ (t : Dest). b.gone ++ (gone_along (calls_got j g) x.dest ++ gone_along (calls_got j h) t)) p.to
      ∙ ap (λ (l : List Departure). b.gone ++ l) (sym (gone-join (calls_got j g) (calls_got j h) x.dest))
      ∙ ap (λ (l : List Call). b.gone ++ gone_along l x.dest) (sym (got-join j g h));
}

-- j is open, before and so after
abbrev Links : ℕ → List Gets → Station → Station → Type 0
Links j gs s u = (x : StationSlot) → slot_of j s ≡ some x → (y : StationSlot) × (slot_of j u ≡ some y) × Linked j gs x y

links-join : (j : ℕ) (g h : List Gets) (s u v : Station) → Links j g s u → Links j h u v → Links j (g ++ h) s v
links-join j g h s u v p q x e =
    let a = p x e in
    let b = q a.0 a.1 in
    (b.0, b.1, linked-join j g h x a.0 b.0 a.2 b.2)

-- one destination gets an accepted call
one-links : (j k : ℕ) (x : StationSlot) (c : Call) (s : Station) → slot_of k s ≡ some x → Links j (gets_call k c x.dest ∷ []) s (put_dest k x (call whole c x.dest).dest s)
one-links j k x c s q z e = by-test (eqb k j)
    (λ d. let same : x ≡ z = some_inj (sym q ∙ ap (λ (n : ℕ). slot_of n s) (eqb-true k j d) ∙ e) in (
      with_dest (call whole c x.dest).dest x,
      ap (λ (n : ℕ). slot_of n (put_dest k x (call whole c x.dest).dest s)) (sym (eqb-true k j d)) ∙ place-put k s x (some (with_dest (call whole c x.dest).dest x)) q,
      subst (λ (y : StationSlot). Linked j (gets_call k c x.dest ∷ []) y (with_dest (call whole c x.dest).dest x)) same
          (record { to = rw d; writes = λ b. rw d (ap (λ (l : List Departure). b.gone ++ l) (sym (append-nil (departures c x.dest (call whole c x.dest).dest)))) }),
    ))
    (λ d. (z, place_other k j s _ (λ n. eqb-false k j d (sym n)) ∙ e, record { to = rw d; writes = λ b. rw d (sym (append-nil b.gone)) }))

-- ---- dead letters

went-links : (j now : ℕ) (e : Entry) (s : Station) (p : ℕ) (g : List Gets) (u : Station) → Went now e s p g u → Links j g s u
went-links j now e s p g u lost x q = (x, q, linked-none j x)
went-links j now e s p g u (kept k x q h) z r = one-links j k x (enqueuing e now) s q z r

letters-link : (j hops now k : ℕ) (es : List Entry) (s : Station) → Links j (letters_get hops now k es s) s (running hops now k es s).station
unfolding letters_get running
letters-link j hops now k [] s = λ x q. (x, q, linked-none j x)
letters-link j hops now k (e ∷ es) s =
    let u : Station = (storing hops now k e s).station in
    links-join j (letter_gets hops now k e s) (letters_get hops now k es u) s u (running hops now k es u).station (went-links j now e s _ _ _ (letter-went hops now k e s)) (letters-link j hops now k es u)

-- ---- the call

-- numbers do not move destinations
links-from : (j : ℕ) (gs : List Gets) (s u v : Station) → slot_of j s ≡ slot_of j u → Links j gs s v → Links j gs u v
links-from j gs s u v e p x q = p x (e ∙ q)

module _ (j k code : ℕ) (ws : List ℕ) (s : Station) (x : StationSlot) (q : slot_of k s ≡ some x) where
  own-links : (o : Option Call) → (call_step whole x.dest o).refusal ≡ 0 → Links j (own_gets k o x.dest) s (Station.called k code x (call_step whole x.dest o).dest s)
  unfolding call_step
  own-links none h = absurd (none-refused whole x.dest h)
  own-links (some c) h =
      let put : Station = put_dest k x (call whole c x.dest).dest s in
      by-if (λ (u : Station). Links j (gets_call k c x.dest ∷ []) s u) (eqb code 1) (took_number put) put (λ d. one-links j k x c s q) (λ d. one-links j k x c s q)

  done-links : 1 ≤ code → (step whole code (carried code ws s) x.dest).refusal ≡ 0
      → (z : StationSlot) → slot_of j s ≡ some z → (b : Book) → (notes j (gets_at k code ws s (some x)) b).gone ≡ b.gone ++ gone_along (calls_got j (gets_at k code ws s (some x))) z.dest
  unfolding gets_at
  done-links n h z r b =
      let e = step_call whole code (carried code ws s) x.dest n in
      let m : Numbered = call_letters k code ws s x in
      let u : Station = Station.called k code x (step whole code (carried code ws s) x.dest).dest s in
      let now : ℕ = clock_of (call_said code ws s) in
      let own : Links j (own_gets k (call_said code ws s) x.dest) s u = subst⁻¹ (λ (v : Result). Links j (own_gets k (call_said code ws s) x.dest) s (Station.called k code x v.dest s)) e (own-links (call_said code ws s) (ap (λ (v : Result). v.refusal) (sym e) ∙ h)) in
      let same : slot_of j m.station ≡ slot_of j u = ap (λ l. slot_of j (record { slots = l; next = 0; lost = 0 })) (number-slots (rejected x.dest (call_said code ws s)) u) in
      let ran = letters-link j hops_max now x.name m.letters m.station in
      (links-join j (own_gets k (call_said code ws s) x.dest) (letters_get hops_max now x.name m.letters m.station) s u (running hops_max now x.name m.letters m.station).station own (links-from j (letters_get hops_max now x.name m.letters m.station) m.station u (running hops_max now x.name m.letters m.station).station same ran) z r).2.writes b

-- the book of j after an accepted call but open, by the calls that j gets in it
pub book-written : (lent : StationLengths) (k code : ℕ) (ws : List ℕ) (s : Station) → 1 ≤ code → (station_step lent k code ws s).refusal ≡ 0
    → (j : ℕ) (z : StationSlot) → slot_of j s ≡ some z → (b : Book) → (book_after j k code ws s b).gone ≡ b.gone ++ gone_along (calls_got j (call_gets k code ws s)) z.dest
book-written lent k code ws s n h j z r b =
    let p = passed lent k code ws s n h in
    subst⁻¹ (λ (o : Option StationSlot). (notes j (gets_at k code ws s o) b).gone ≡ b.gone ++ gone_along (calls_got j (gets_at k code ws s o)) z.dest) p.there
    (done-links j k code ws s p.slot p.there n p.own z r b)
