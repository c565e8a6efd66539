-- A run on a station whose calls make no dead letter is, for each destination, the run of that destination's own calls. Assumes nothing.
use Prim.Native.Nat.{ℕ, ◌≤◌}
use mathlib.Core.Path.{◌≡◌, refl, sym, ◌∙◌, ap, subst, subst⁻¹}
use mathlib.Core.Logic.{◌≢◌}
use mathlib.Core.Bool.{true, false, not, ◌&&◌, true≢false}
use mathlib.Core.List.{List, [], ◌∷◌, map}
use mathlib.Core.Option.{none, some}
use lib.Dec.{eqb}
use lib.ListN.{length, length-set}
use borrow.Author.Tests.{eqb-true, eqb-false, eq-eqb}
use Rattle.definition.specs.Base.{all}
use Rattle.definition.specs.Types.{Id, Dest}
use Rattle.definition.specs.Consumer.{same_id}
use Rattle.definition.specs.Calls.{sound, Result}
use Rattle.definition.specs.Words.{id_in}
use Rattle.definition.specs.Orders.{Lent, caller, Reply, result, reply, dest_left, replies_of}
use Rattle.definition.specs.Runs.{run, end}
use Rattle.definition.proofs.Tests.{by-test, and_left, and_right, and_both}
use Rattle.definition.proofs.Lists.{All, none-some, some_inj}
use Rattle.definition.proofs.Reorder.{keep-yes, keep-no}
use Rattle.definition.proofs.Refusals.{step_kept}
use Rattle.definition.proofs.Claims.{step-leaves-sound}
use Rattle.definition_station.specs.Types.{StationSlot, with_dest, Station, slot_of, put_dest}
use Rattle.definition_station.specs.Station.{station_sound, StationResult}
use Rattle.definition_station.specs.Orders.{StationCall, StationReply, station_reply, station_left, calls_on, own_call, replies_by, is_dead_letter, makes_none, NoLetters}
use Rattle.definition_station.proofs.Places.{facts, from-facts, slot-sound, dest-facts, place-put, place_other}
use Rattle.definition_station.proofs.Alone.{down, lifted, no_x, all-sent, touches-one, hears}

-- the calls on one destination, as it gets them
abbrev pub onto : ℕ → List StationCall → List Lent
onto j l = map down (calls_on j l)

-- the call's place is open, and its code 4 to 7
pub record Sits (s : Station) (c : StationCall) : Type 0 where
  pub low : 4 ≤ c.code
  pub slot : StationSlot
  pub opened : slot_of c.place s ≡ some slot

-- no call of the run sends an `x`
abbrev pub QuietRun : List Lent → Dest → Type 0
QuietRun l t = all (λ r. no_x r.1.events) (run reply dest_left l t) ≡ true

-- on no destination
abbrev pub QuietRuns : List StationCall → Station → Type 0
QuietRuns l s = (j : ℕ) (x : StationSlot) → slot_of j s ≡ some x → QuietRun (onto j l) x.dest

-- ---- one call

onto-here : (c : StationCall) (l : List StationCall) → onto c.place (c ∷ l) ≡ down c ∷ onto c.place l
onto-here c l = ap (map down) (keep-yes (λ (d : StationCall). eqb d.place c.place) c l (eq-eqb c.place c.place refl))

onto-other : (j : ℕ) (c : StationCall) (l : List StationCall) → eqb c.place j ≡ false → onto j (c ∷ l) ≡ onto j l
onto-other j c l e = ap (map down) (keep-no (λ (d : StationCall). eqb d.place j) c l e)

left-sound : (c : Lent) (t : Dest) → sound t ≡ true → sound (dest_left c t) ≡ true
left-sound c t h = by-test (eqb (result c t).refusal 0)
    (λ e. step-leaves-sound c.lengths c.code c.words t (eqb-true (result c t).refusal 0 e))
    (λ e. subst⁻¹ (λ (r : Result). sound r.dest ≡ true) (step_kept c.lengths c.code c.words t (eqb-false (result c t).refusal 0 e)) h)

differ : (c : StationCall) (j : ℕ) → eqb c.place j ≡ false → j ≢ c.place
differ c j n e = true≢false (sym (eq-eqb c.place j (sym e)) ∙ n)

module _ (c : StationCall) (s : Station) (x : StationSlot) (y : station_sound s ≡ true) (q : slot_of c.place s ≡ some x) (low : 4 ≤ c.code) where
  -- what the destination is left as, and the station with it
  abbrev after : StationSlot
  after = with_dest (dest_left (down c) x.dest) x

  abbrev moved : Station
  moved = put_dest c.place x (dest_left (down c) x.dest) s

  moved-sound : station_sound moved ≡ true
  moved-sound = from-facts moved (dest-facts c.place x _ s (facts s y) q (left-sound (down c) x.dest (slot-sound c.place s x (facts s y) q).0))

  moved_here : slot_of c.place moved ≡ some after
  moved_here = place-put c.place s x (some after) q

  moved_other : (j : ℕ) → eqb c.place j ≡ false → slot_of j moved ≡ slot_of j s
  moved_other j n = place_other c.place j s (some after) (differ c j n)

  -- another call's place stays open
  stays : (d : StationCall) → Sits s d → Sits moved d
  stays d h = by-test (eqb c.place d.place)
      (λ e. record { low = h.low; slot = after; opened = ap (λ (j : ℕ). slot_of j moved) (sym (eqb-true c.place d.place e)) ∙ moved_here })
      (λ e. record { low = h.low; slot = h.slot; opened = moved_other d.place e ∙ h.opened })

  all_stay : (l : List StationCall) → All (Sits s) l → All (Sits moved) l
  all_stay [] h = tt
  all_stay (d ∷ l) h = (stays d h.0, all_stay l h.1)

  -- each place is this one, or another
  by_place : (P : ℕ → StationSlot → Type 0) → P c.place x → ((j : ℕ) (z : StationSlot) → eqb c.place j ≡ false → slot_of j s ≡ some z → P j z) → (j : ℕ) (z : StationSlot) → slot_of j s ≡ some z → P j z
  by_place P h g j z e = by-test (eqb c.place j)
      (λ n.
      let k : c.place ≡ j = eqb-true c.place j n in
      subst (λ (i : ℕ). P i z) k (subst (λ (v : StationSlot). P c.place v) (some_inj (sym q ∙ ap (λ (i : ℕ). slot_of i s) k ∙ e)) h))
      (λ n. g j z n e)

  module _ (l : List StationCall) where
    head-quiet : QuietRuns (c ∷ l) s → no_x (result (down c) x.dest).events ≡ true
    head-quiet h = and_left _ _ (subst (λ (m : List Lent). QuietRun m x.dest) (onto-here c l) (h c.place x q))

    tail-quiet : QuietRuns (c ∷ l) s → QuietRuns l moved
    tail-quiet h j z e = by-test (eqb c.place j)
        (λ n.
        let k : c.place ≡ j = eqb-true c.place j n in
        let f : after ≡ z = some_inj (sym moved_here ∙ ap (λ (i : ℕ). slot_of i moved) k ∙ e) in
        subst (λ (i : ℕ). QuietRun (onto i l) z.dest) k (subst (λ (v : StationSlot). QuietRun (onto c.place l) v.dest) f (and_right (no_x (result (down c) x.dest).events) _ (subst (λ (m : List Lent). QuietRun m x.dest) (onto-here c l) (h c.place x q)))))
        (λ n. subst (λ (m : List Lent). QuietRun m z.dest) (onto-other j c l n) (h j z (sym (moved_other j n) ∙ e)))

    -- the other way round
    cons-quiet : no_x (result (down c) x.dest).events ≡ true → QuietRuns l moved → QuietRuns (c ∷ l) s
    cons-quiet n h = by_place (λ j z. QuietRun (onto j (c ∷ l)) z.dest)
        (subst⁻¹ (λ (m : List Lent). QuietRun m x.dest) (onto-here c l) (and_both _ _ n (h c.place after moved_here)))
        (λ j z e f. subst⁻¹ (λ (m : List Lent). QuietRun m z.dest) (onto-other j c l e) (h j z (moved_other j e ∙ f)))

-- ---- none makes a dead letter, on the station and on its destinations

pub quiet-onto : (l : List StationCall) (s : Station) → station_sound s ≡ true → All (Sits s) l → NoLetters l s → QuietRuns l s
quiet-onto [] s y h n = λ j x e. refl
quiet-onto (c ∷ l) s y h n =
    let x = h.0.slot in
    let q = h.0.opened in
    let low = h.0.low in
    let v = hears c s x y q low (and_left _ _ n) in
    let w : station_left c s ≡ moved c s x y q low = ap (λ (r : StationResult). r.station) (touches-one c s x y q low v) in
    cons-quiet c s x y q low l v (quiet-onto l (moved c s x y q low) (moved-sound c s x y q low) (all_stay c s x y q low l h.1) (subst (NoLetters l) w (and_right (makes_none (station_reply c s)) _ n)))

pub none-onto : (l : List StationCall) (s : Station) → station_sound s ≡ true → All (Sits s) l → QuietRuns l s → NoLetters l s
none-onto [] s y h n = refl
none-onto (c ∷ l) s y h n =
    let x = h.0.slot in
    let q = h.0.opened in
    let low = h.0.low in
    let v = head-quiet c s x y q low l n in
    let e = touches-one c s x y q low v in
    let w : station_left c s ≡ moved c s x y q low = ap (λ (r : StationResult). r.station) e in
    and_both _ _
    (ap (λ (r : StationResult). all (λ u. not (is_dead_letter u.event)) r.events) e ∙ all-sent c.place (result (down c) x.dest).events ∙ v)
    (subst⁻¹ (NoLetters l) w (none-onto l (moved c s x y q low) (moved-sound c s x y q low) (all_stay c s x y q low l h.1) (tail-quiet c s x y q low l n)))

-- ---- the run, place by place

pub record Follows (s : Station) (l : List StationCall) (v : Station) (rs : List (StationCall × StationReply)) : Type 0 where
  pub next : v.next ≡ s.next
  pub lost : v.lost ≡ s.lost
  pub places : length v.slots ≡ length s.slots
  pub closed : (j : ℕ) → slot_of j s ≡ none → slot_of j v ≡ none
  pub dests : (j : ℕ) (x : StationSlot) → slot_of j s ≡ some x → slot_of j v ≡ some (with_dest (end dest_left (onto j l) x.dest) x)
  pub replies : (j : ℕ) (i : Id) (x : StationSlot) → slot_of j s ≡ some x → map (λ r. r.1) (replies_by j i rs) ≡ map (λ r. lifted j r.1) (replies_of i (run reply dest_left (onto j l) x.dest))

abbrev second : List (StationCall × StationReply) → List StationReply
second rs = map (λ r. r.1) rs

abbrev raised : ℕ → List (Lent × Reply) → List StationReply
raised j rs = map (λ r. lifted j r.1) rs

module _ (c : StationCall) (s : Station) (x : StationSlot) (y : station_sound s ≡ true) (q : slot_of c.place s ≡ some x) (low : 4 ≤ c.code) (l : List StationCall) (v : Station) (rs : List (StationCall × StationReply))
    (a : StationReply) (e : a ≡ lifted c.place (reply (down c) x.dest)) (f : Follows (moved c s x y q low) l v rs) where
  here-replies : (i : Id) → second (replies_by c.place i ((c, a) ∷ rs)) ≡ raised c.place (replies_of i (run reply dest_left (onto c.place (c ∷ l)) x.dest))
  here-replies i =
      by-test (same_id (id_in c.words) i)
      (λ n. ap second (keep-yes (λ r. own_call c.place i r.0) (c, a) rs (and_both (eqb c.place c.place) _ self n))
      ∙ (λ k. e k ∷ f.replies c.place i (after c s x y q low) (moved_here c s x y q low) k)
      ∙ ap (raised c.place) (sym (keep-yes (λ r. same_id (caller r.0) i) (down c, reply (down c) x.dest) (run reply dest_left (onto c.place l) (dest_left (down c) x.dest)) n))
      ∙ back)
      (λ n. ap second (keep-no (λ r. own_call c.place i r.0) (c, a) rs (ap (λ b. b && same_id (id_in c.words) i) self ∙ n))
      ∙ f.replies c.place i (after c s x y q low) (moved_here c s x y q low)
      ∙ ap (raised c.place) (sym (keep-no (λ r. same_id (caller r.0) i) (down c, reply (down c) x.dest) (run reply dest_left (onto c.place l) (dest_left (down c) x.dest)) n))
      ∙ back)
    where
      self : eqb c.place c.place ≡ true
      self = eq-eqb c.place c.place refl

      back : raised c.place (replies_of i (run reply dest_left (down c ∷ onto c.place l) x.dest)) ≡ raised c.place (replies_of i (run reply dest_left (onto c.place (c ∷ l)) x.dest))
      back = ap (λ (m : List Lent). raised c.place (replies_of i (run reply dest_left m x.dest))) (sym (onto-here c l))

  other-replies : (i : Id) (j : ℕ) (z : StationSlot) → eqb c.place j ≡ false → slot_of j s ≡ some z → second (replies_by j i ((c, a) ∷ rs)) ≡ raised j (replies_of i (run reply dest_left (onto j (c ∷ l)) z.dest))
  other-replies i j z n g =
      ap second (keep-no (λ r. own_call j i r.0) (c, a) rs (ap (λ b. b && same_id (id_in c.words) i) n))
      ∙ f.replies j i z (moved_other c s x y q low j n ∙ g)
      ∙ ap (λ (m : List Lent). raised j (replies_of i (run reply dest_left m z.dest))) (sym (onto-other j c l n))

  follows-cons : Follows s (c ∷ l) v ((c, a) ∷ rs)
  follows-cons = record {
    next = f.next;
    lost = f.lost;
    places = f.places ∙ length-set s.slots c.place (some (after c s x y q low));
    closed = λ j n. f.closed j (by-test (eqb c.place j) (λ g. absurd (none-some (sym n ∙ ap (λ (i : ℕ). slot_of i s) (sym (eqb-true c.place j g)) ∙ q))) (λ g. moved_other c s x y q low j g ∙ n));
    dests = by_place c s x y q low (λ j z. slot_of j v ≡ some (with_dest (end dest_left (onto j (c ∷ l)) z.dest) z))
        (f.dests c.place (after c s x y q low) (moved_here c s x y q low) ∙ ap (λ (m : List Lent). some (with_dest (end dest_left m x.dest) x)) (sym (onto-here c l)))
        (λ j z n g. f.dests j z (moved_other c s x y q low j n ∙ g) ∙ ap (λ (m : List Lent). some (with_dest (end dest_left m z.dest) z)) (sym (onto-other j c l n)));
    replies = λ j i z g. by_place c s x y q low (λ j z. second (replies_by j i ((c, a) ∷ rs)) ≡ raised j (replies_of i (run reply dest_left (onto j (c ∷ l)) z.dest))) (here-replies i) (other-replies i) j z g;
  }

pub follows : (l : List StationCall) (s : Station) → station_sound s ≡ true → All (Sits s) l → QuietRuns l s → Follows s l (end station_left l s) (run station_reply station_left l s)
follows [] s y h n = record { next = refl; lost = refl; places = refl; closed = λ j e. e; dests = λ j x e. e; replies = λ j i x e. refl }
follows (c ∷ l) s y h n =
    let x = h.0.slot in
    let q = h.0.opened in
    let low = h.0.low in
    let e = touches-one c s x y q low (head-quiet c s x y q low l n) in
    let w : station_left c s ≡ moved c s x y q low = ap (λ (r : StationResult). r.station) e in
    let a : station_reply c s ≡ lifted c.place (reply (down c) x.dest) = ap (λ (r : StationResult). record { refusal = r.refusal; answer = r.answer; events = r.events }) e in
    follows-cons c s x y q low l (end station_left l (station_left c s)) (run station_reply station_left l (station_left c s)) (station_reply c s) a
    (subst⁻¹ (λ (u : Station). Follows (moved c s x y q low) l (end station_left l u) (run station_reply station_left l u)) w
    (follows l (moved c s x y q low) (moved-sound c s x y q low) (all_stay c s x y q low l h.1) (tail-quiet c s x y q low l n)))
