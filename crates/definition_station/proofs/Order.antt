-- Codes 4 to 7 change places on a station where they make no dead letter: document 01's claim for each destination. Assumes nothing.
use Prim.Native.Nat.{ℕ}
use native.Mathlib.Omega.{arith}
use mathlib.Core.Path.{◌≡◌, refl, sym, ◌∙◌, ap, subst, subst⁻¹}
use mathlib.Core.Bool.{Bool, true, false, ◌&&◌}
use mathlib.Core.List.{List, [], ◌∷◌, map}
use mathlib.Core.Option.{Option, none, some}
use lib.ListN.{length-map}
use lib.Dec.{eqb}
use lib.Seq.{ext_get_or}
use borrow.Author.Tests.{eqb-true, eq-eqb}
use Rattle.definition.specs.Base.{keep, all, is_some}
use Rattle.definition.specs.Types.{Id, Dest}
use Rattle.definition.specs.Consumer.{same_id}
use Rattle.definition.specs.Destination.{sub_of}
use Rattle.definition.specs.Words.{id_in}
use Rattle.definition.specs.Orders.{Lent, caller, Reply, reply, dest_left, calls_of, AllPresent, Qualifies, SameRuns}
use Rattle.definition.specs.Runs.{run, end}
use Rattle.definition.proofs.Tests.{by-test, and_left, and_right, and_both}
use Rattle.definition.proofs.Lists.{All, none-some, some_inj}
use Rattle.definition.proofs.Reorder.{keep-yes, keep-no, nil-cons}
use Rattle.model.proofs.Ids.{same-id-refl}
use Rattle.definition.proofs.Order.{reordering}
use Rattle.definition_station.specs.Types.{StationSlot, with_dest, Station, slot_of}
use Rattle.definition_station.specs.Station.{station_sound}
use Rattle.definition_station.specs.Orders.{StationCall, StationReply, station_reply, station_left, ReachedStation, calls_on, own_call, calls_by, replies_by, StandsAt, AllStand, CallsLeft, SameCalls, NoLetters, SameStationRuns, StationReordering, OneOrderIsEnough}
use Rattle.definition_station.proofs.Alone.{down, lifted, no_x}
use Rattle.definition_station.proofs.Follow.{onto, Sits, QuietRun, QuietRuns, quiet-onto, none-onto, Follows, follows}
use Rattle.definition_station.proofs.Reached.{places-reached, reached-station-sound}

-- ---- lists by keys

module _ {A : Type 0} where
  -- what holds of each key's part holds of the whole
  module _ (I : Type 0) (has : I → A → Bool) (key : A → I) (self : (a : A) → has (key a) a ≡ true) (P : A → Type 0) where
    all-keys : (m : List A) → ((i : I) → All P (keep (has i) m)) → All P m
    all-keys [] h = tt
    all-keys (a ∷ m) h = (
      (subst (All P) (keep-yes (has (key a)) a m (self a)) (h (key a))).0,
      all-keys m (λ i. by-test (has i a) (λ e. (subst (All P) (keep-yes (has i) a m e) (h i)).1) (λ e. subst (All P) (keep-no (has i) a m e) (h i))),
    )

  all-part : (P : A → Type 0) (p : A → Bool) (l : List A) → All P l → All P (keep p l)
  all-part P p [] h = tt
  all-part P p (a ∷ l) h = by-test (p a) (λ e. subst⁻¹ (All P) (keep-yes p a l e) (h.0, all-part P p l h.1)) (λ e. subst⁻¹ (All P) (keep-no p a l e) (all-part P p l h.1))

  -- and each of the part passes
  all-passed : (p : A → Bool) (l : List A) → All (λ a. p a ≡ true) (keep p l)
  all-passed p [] = tt
  all-passed p (a ∷ l) = by-test (p a) (λ e. subst⁻¹ (All (λ a. p a ≡ true)) (keep-yes p a l e) (e, all-passed p l)) (λ e. subst⁻¹ (All (λ a. p a ≡ true)) (keep-no p a l e) (all-passed p l))

  all_true : (p : A → Bool) (l : List A) → All (λ a. p a ≡ true) l → all p l ≡ true
  all_true p [] h = refl
  all_true p (a ∷ l) h = and_both (p a) _ h.0 (all_true p l h.1)

  true-all : (p : A → Bool) (l : List A) → all p l ≡ true → All (λ a. p a ≡ true) l
  true-all p [] h = tt
  true-all p (a ∷ l) h = (and_left (p a) _ h, true-all p l (and_right (p a) _ h))

-- two lists of pairs
pairs : {A B : Type 0} (l m : List (A × B)) → map (λ r. r.0) l ≡ map (λ r. r.0) m → map (λ r. r.1) l ≡ map (λ r. r.1) m → l ≡ m
pairs [] [] p q = refl
pairs [] (b ∷ m) p q = absurd (nil-cons p)
pairs (a ∷ l) [] p q = absurd (nil-cons (sym p))
pairs (a ∷ l) (b ∷ m) p q =
    let h : a.0 ≡ b.0 = cc in
    let k : a.1 ≡ b.1 = cc in
    let r : l ≡ m = pairs l m (cc) (cc) in
    λ i. (h i, k i) ∷ r i

nil-map : {A B : Type 0} (f : A → B) (l : List A) → map f l ≡ [] → l ≡ []
nil-map f [] e = refl
nil-map f (a ∷ l) e = absurd (nil-cons (sym e))

-- ---- the calls of a destination's consumer, on the station and there

onto-calls : (j : ℕ) (i : Id) (l : List StationCall) → calls_of i (onto j l) ≡ map down (calls_by j i l)
onto-calls j i [] = refl
onto-calls j i (c ∷ l) = cases (eqb c.place j) (same_id (id_in c.words) i) refl refl (onto-calls j i l)
  where
    cases : (a b : Bool) → eqb c.place j ≡ a → same_id (id_in c.words) i ≡ b → calls_of i (onto j l) ≡ map down (calls_by j i l) → calls_of i (onto j (c ∷ l)) ≡ map down (calls_by j i (c ∷ l))
    cases true true e f h = rw (e, f) (ap (λ (m : List Lent). down c ∷ m) h)
    cases true false e f h = rw (e, f) h
    cases false b e f h = rw e h

run-calls : (j : ℕ) (i : Id) (l : List StationCall) (s : Station) → map (λ r. r.0) (replies_by j i (run station_reply station_left l s)) ≡ calls_by j i l
run-calls j i [] s = refl
run-calls j i (c ∷ l) s = cases (own_call j i c) refl (run-calls j i l (station_left c s))
  where
    first : List (StationCall × StationReply) → List StationCall
    first rs = map (λ r. r.0) rs

    cases : (b : Bool) → own_call j i c ≡ b → map (λ r. r.0) (replies_by j i (run station_reply station_left l (station_left c s))) ≡ calls_by j i l → map (λ r. r.0) (replies_by j i (run station_reply station_left (c ∷ l) s)) ≡ calls_by j i (c ∷ l)
    cases true e h = ap first (keep-yes (λ r. own_call j i r.0) (c, station_reply c s) (run station_reply station_left l (station_left c s)) e) ∙ ap (λ (m : List StationCall). c ∷ m) h ∙ sym (keep-yes (own_call j i) c l e)
    cases false e h = ap first (keep-no (λ r. own_call j i r.0) (c, station_reply c s) (run station_reply station_left l (station_left c s)) e) ∙ h ∙ sym (keep-no (own_call j i) c l e)

none-agree : (m : List Lent) → ((i : Id) → [] ≡ calls_of i m) → m ≡ []
none-agree [] h = refl
none-agree (c ∷ m) h = absurd (nil-cons (h (caller c) ∙ keep-yes (λ (x : Lent). same_id (caller x) (caller c)) c m (same-id-refl (caller c))))

-- ---- the calls stand

pub all-sit : (cleared : ℕ → Bool) (s : Station) (l : List StationCall) → AllStand cleared s l → All (Sits s) l
all-sit cleared s [] h = tt
all-sit cleared s (c ∷ l) h = (record { low = h.0.low; slot = h.0.slot; opened = h.0.opened }, all-sit cleared s l h.1)

all-stand : (cleared : ℕ → Bool) (s : Station) (l : List StationCall) → AllStand cleared s l → All (StandsAt cleared s) l
all-stand cleared s [] h = tt
all-stand cleared s (c ∷ l) h = (h.0, all-stand cleared s l h.1)

-- in another order, too
pub sit-again : (s : Station) (l m : List StationCall) → SameCalls l m → All (Sits s) l → All (Sits s) m
sit-again s l m h a = all-keys (ℕ × Id) (λ k c. own_call k.0 k.1 c) (λ c. (c.place, id_in c.words)) (λ c. and_both _ _ (eq-eqb c.place c.place refl) (same-id-refl (id_in c.words))) (Sits s) m
    (λ k. subst (All (Sits s)) (h k.0 k.1) (all-part (Sits s) (own_call k.0 k.1) l a))

-- no call is on a place that is not open
none-there : (s : Station) (j : ℕ) (i : Id) (l : List StationCall) → slot_of j s ≡ none → All (Sits s) l → calls_by j i l ≡ []
none-there s j i [] n h = refl
none-there s j i (c ∷ l) n h = keep-no (own_call j i) c l (by-test (eqb c.place j)
    (λ e. absurd (none-some (sym n ∙ ap (λ (k : ℕ). slot_of k s) (sym (eqb-true c.place j e)) ∙ h.0.opened)))
    (λ e. ap (λ b. b && same_id (id_in c.words) i) e)) ∙ none-there s j i l n h.1

-- ---- one destination

module _ (cleared : ℕ → Bool) (s : Station) (reached : ReachedStation cleared s) (l m : List StationCall) (stand : AllStand cleared s l) (calls : CallsLeft s l) (same : SameCalls l m) where
  module _ (j : ℕ) (x : StationSlot) (q : slot_of j s ≡ some x) where
    -- a call that stands there finds this destination
    finds : (c : StationCall) (h : StandsAt cleared s c) → eqb c.place j ≡ true → h.slot ≡ x
    finds c h e = some_inj (sym h.opened ∙ ap (λ (k : ℕ). slot_of k s) (eqb-true c.place j e) ∙ q)

    presents : (k : List StationCall) → All (StandsAt cleared s) k → All (λ c. eqb c.place j ≡ true) k → AllPresent (map down k) x.dest
    presents [] h e = tt
    presents (c ∷ k) h e = (record { low = h.0.low; high = h.0.high; there = ap (λ (z : StationSlot). is_some (sub_of (id_in c.words) z.dest)) (sym (finds c h.0 e.0)) ∙ h.0.there }, presents k h.1 e.1)

    fits : (c : StationCall) (k : List StationCall) → All (StandsAt cleared s) (c ∷ k) → All (λ c. eqb c.place j ≡ true) (c ∷ k) → Qualifies (cleared j) x.dest
    fits c k h e = subst (λ (n : ℕ). Qualifies (cleared n) x.dest) (eqb-true c.place j e.0) (subst (λ (z : StationSlot). Qualifies (cleared c.place) z.dest) (finds c h.0 e.0) h.0.qualifies)

    agree : (i : Id) → calls_of i (onto j l) ≡ calls_of i (onto j m)
    agree i = onto-calls j i l ∙ ap (map down) (same j i) ∙ sym (onto-calls j i m)

    stood : All (StandsAt cleared s) (calls_on j l)
    stood = all-part (StandsAt cleared s) (λ c. eqb c.place j) l (all-stand cleared s l stand)

    placed : All (λ c. eqb c.place j ≡ true) (calls_on j l)
    placed = all-passed (λ c. eqb c.place j) l

    orders : (k : List StationCall) → calls_on j l ≡ k → SameRuns (onto j l) (onto j m) x.dest
    orders [] e =
        let a : onto j l ≡ [] = ap (map down) e in
        let b : onto j m ≡ [] = none-agree (onto j m) (λ i. ap (calls_of i) (sym a) ∙ agree i) in
        subst⁻¹ (λ (u : List Lent). SameRuns u (onto j m) x.dest) a (subst⁻¹ (λ (v : List Lent). SameRuns [] v x.dest) b (record { replies = λ i. refl; states = refl }))
    orders (c ∷ k) e = reordering (cleared j) x.dest (places-reached cleared s reached j x q) (fits c k (subst (All (StandsAt cleared s)) e stood) (subst (All (λ c. eqb c.place j ≡ true)) e placed))
        (onto j l) (onto j m) (presents (calls_on j l) stood placed) (omega (arith, length-map (calls_on j l) down, calls j x q)) agree

    same_runs : SameRuns (onto j l) (onto j m) x.dest
    same_runs = orders (calls_on j l) refl

    -- an `x` that the one order does not send, the other does not
    quiet-again : QuietRun (onto j l) x.dest → QuietRun (onto j m) x.dest
    quiet-again h = all_true (λ r. no_x r.1.events) (run reply dest_left (onto j m) x.dest)
        (all-keys Id (λ i r. same_id (caller r.0) i) (λ r. caller r.0) (λ r. same-id-refl (caller r.0)) (λ r. no_x r.1.events ≡ true) (run reply dest_left (onto j m) x.dest)
        (λ i. subst (All (λ r. no_x r.1.events ≡ true)) (same_runs.replies i) (all-part (λ r. no_x r.1.events ≡ true) (λ r. same_id (caller r.0) i) (run reply dest_left (onto j l) x.dest) (true-all (λ r. no_x r.1.events) (run reply dest_left (onto j l) x.dest) h))))

  -- ---- the station

  module _ (nothing : NoLetters l s) where
    sound : station_sound s ≡ true
    sound = reached-station-sound cleared s reached

    sits : All (Sits s) l
    sits = all-sit cleared s l stand

    sits' : All (Sits s) m
    sits' = sit-again s l m same sits

    quiet : QuietRuns l s
    quiet = quiet-onto l s sound sits nothing

    quiet' : QuietRuns m s
    quiet' j x q = quiet-again j x q (quiet j x q)

    one : Follows s l (end station_left l s) (run station_reply station_left l s)
    one = follows l s sound sits quiet

    two : Follows s m (end station_left m s) (run station_reply station_left m s)
    two = follows m s sound sits' quiet'

    at_place : (j : ℕ) (o : Option StationSlot) → slot_of j s ≡ o → slot_of j (end station_left l s) ≡ slot_of j (end station_left m s)
    at_place j none e = one.closed j e ∙ sym (two.closed j e)
    at_place j (some x) e = one.dests j x e ∙ ap (λ (t : Dest). some (with_dest t x)) (same_runs j x e).states ∙ sym (two.dests j x e)

    ends : end station_left l s ≡ end station_left m s
    ends =
        let a = ext_get_or none (end station_left l s).slots (end station_left m s).slots (one.places ∙ sym two.places) (λ j h. at_place j (slot_of j s) refl) in
        let b = one.next ∙ sym two.next in
        let c = one.lost ∙ sym two.lost in
        λ i. record { slots = a i; next = b i; lost = c i }

    got : (j : ℕ) (i : Id) (o : Option StationSlot) → slot_of j s ≡ o → replies_by j i (run station_reply station_left l s) ≡ replies_by j i (run station_reply station_left m s)
    got j i none e =
        nil-map (λ r. r.0) (replies_by j i (run station_reply station_left l s)) (run-calls j i l s ∙ none-there s j i l e sits)
        ∙ sym (nil-map (λ r. r.0) (replies_by j i (run station_reply station_left m s)) (run-calls j i m s ∙ none-there s j i m e sits'))
    got j i (some x) e = pairs _ _ (run-calls j i l s ∙ same j i ∙ sym (run-calls j i m s))
        (one.replies j i x e ∙ ap (λ (rs : List (Lent × Reply)). map (λ r. lifted j r.1) rs) ((same_runs j x e).replies i) ∙ sym (two.replies j i x e))

    both : SameStationRuns l m s × NoLetters m s
    both = (record { replies = λ j i. got j i (slot_of j s) refl; stations = ends }, none-onto m s sound sits' quiet')

pub one-order-is-enough : OneOrderIsEnough
one-order-is-enough cleared s reached l m stand calls same n = both cleared s reached l m stand calls same n

pub station-reordering : StationReordering
station-reordering cleared s reached l m stand calls same n = (both cleared s reached l m stand calls same (n l (λ j i. refl))).0
