-- The book of a queue on a station, kept by every accepted call. Assumes nothing.
use Prim.Native.Nat.{ℕ, ◌+◌, ◌≤◌, ◌<◌, ◌^◌}
use native.Mathlib.Omega.{arith}
use mathlib.Core.Path.{◌≡◌, refl, sym, ◌∙◌, ap, subst, subst⁻¹}
use mathlib.Core.Bool.{Bool, true, false, not, ◌&&◌, ◌||◌}
use mathlib.Core.List.{List, [], ◌∷◌, ◌++◌, map, map-append}
use mathlib.Core.Option.{Option, none, some}
use lib.Dec.{leb, ltb, eqb}
use lib.ListN.{drop}
use lib.Seq.{get_or-set_same}
use borrow.Author.Tests.{eqb-true, eqb-false, ne_eqb, leb-true, le-leb, ltb-true, ltb-false, lt-ltb}
use Rattle.definition.specs.Base.{whether◌then◌else◌, all, member}
use Rattle.definition.specs.Types.{queue, Entry, Dest}
use Rattle.definition.specs.Calls.{seqs, Call, enqueuing, discarding, missing, brought, Result, call}
use Rattle.definition.specs.Words.{at, kind_of, decode, open_words, opened_by, read, call_step, step}
use Rattle.definition.proofs.Tests.{by-if, by-test, if-true, if-false, and_left, and_right, and_both, or-no-left}
use Rattle.definition.proofs.Lists.{some_inj, all-joined}
use Rattle.definition.proofs.Made.{step_call, none-refused}
use Rattle.fates.specs.Fates.{departures}
use Rattle.fates.specs.Account.{Account, opening, calling}
use Rattle.fates.specs.Blocks.{block_at}
use Rattle.fates.proofs.Blocks.{decode-says}
use Rattle.fates.proofs.Run.{called}
use Rattle.fates.proofs.Claims.{each-in-one-place, enqueued-is-the-total, counters-are-the-parts}
use Rattle.definition_station.specs.Types.{StationSlot, with_dest, Station, slot_of, put_slot, put_dest, took_number, losing_letter}
use Rattle.definition_station.specs.Letters.{rejected, clock_of, Numbered, number_letters, whole, each, storing, running, hops_max}
use Rattle.definition_station.specs.Station as Station
use Rattle.definition_station.specs.Station.{StationLengths, station_sound, StationResult, opening_words, opened_slot, carried, station_step, station_uncoded}
use Rattle.definition_station.specs.Orders as Orders
use Rattle.definition_station.specs.Orders.{cleared_by, going}
use Rattle.definition_station.proofs.Places.{facts, place-put, place_other}
use Rattle.definition_station.proofs.Sound.{passed, past, opened, open-left}
use Rattle.definition_station.proofs.Uncoded.{counted}
use Rattle.definition_station.proofs.Reached.{letter_words, stored-decodes, reached-station-sound}
use Rattle.definition_stationfates.specs.Books.{Gets, gets_call, letter_gets, letters_get, own_gets, call_said, call_letters, gets_at, Book, empty_book, note_one, notes, book_after, Booked, opens, calls, discards, misses, BooksAreRight, BooksAreAccounts, BookedIsReached}
use Rattle.definition_stationfates.proofs.Letters.{Went, lost, kept, letter-went, running-next}

-- ---- numbers from one on and below another

abbrev under : ℕ → List ℕ → Bool
under n l = all (λ m. ltb m n) l

abbrev within : ℕ → ℕ → List ℕ → Bool
within low high l = all (λ m. leb low m && ltb m high) l

pub under-new : (n x : ℕ) (l : List ℕ) → under n l ≡ true → n ≤ x → member x l ≡ false
under-new n x [] h g = refl
under-new n x (m ∷ l) h g =
    let a = ltb-true m n (and_left (ltb m n) _ h) in
    both (eqb x m) (member x l) (ne_eqb x m (λ q. omega (arith, a, g, q))) (under-new n x l (and_right (ltb m n) _ h) g)
  where
    both : (a b : Bool) → a ≡ false → b ≡ false → (a || b) ≡ false
    both a b p q = rw (p, q)

under_more : (n m : ℕ) (l : List ℕ) → n ≤ m → under n l ≡ true → under m l ≡ true
under_more n m [] g h = refl
under_more n m (x ∷ l) g h = and_both (ltb x m) _ (lt-ltb x m (omega (arith, g, ltb-true x n (and_left (ltb x n) _ h)))) (under_more n m l g (and_right (ltb x n) _ h))

within-under : (low high : ℕ) (l : List ℕ) → within low high l ≡ true → under high l ≡ true
within-under low high [] h = refl
within-under low high (m ∷ l) h = and_both (ltb m high) _ (and_right (leb low m) _ (and_left (leb low m && ltb m high) _ h)) (within-under low high l (and_right (leb low m && ltb m high) _ h))

within-one : (low high m : ℕ) → low ≤ m → m < high → within low high (m ∷ []) ≡ true
within-one low high m g h = and_both (leb low m && ltb m high) true (and_both (leb low m) _ (le-leb low m g) (lt-ltb m high h)) refl

-- entries whose numbers are from one on, beside entries whose numbers are below it
all_new : (low high : ℕ) (a l : List Entry) → under low (seqs a) ≡ true → within low high (seqs l) ≡ true → all (λ e. not (member e.seq (seqs a))) l ≡ true
all_new low high a [] h w = refl
all_new low high a (e ∷ l) h w =
    let g = leb-true low e.seq (and_left (leb low e.seq) _ (and_left (leb low e.seq && ltb e.seq high) _ w)) in
    and_both (not (member e.seq (seqs a))) _ (ap not (under-new low e.seq (seqs a) h g)) (all_new low high a l h (and_right (leb low e.seq && ltb e.seq high) _ w))

-- what a call brings, by its code
brought-numbers : (code : ℕ) (ws : List ℕ) (c : Call) → decode code ws ≡ some c → seqs (brought c) ≡ (whether eqb code 1 then at 0 ws ∷ [] else [])
brought-numbers code ws c e = sym (block-numbers (brought c)) ∙ ap (map (at 0)) (sym (decode-says code ws c e).brings) ∙ by-test (eqb code 1) (λ d. rw d) (λ d. rw d)
  where
    block-numbers : (l : List Entry) → map (at 0) (map (block_at 0) l) ≡ seqs l
    block-numbers [] = refl
    block-numbers (v ∷ l) = ap (λ (k : List ℕ). v.seq ∷ k) (block-numbers l)

-- ---- a destination and its book, of which H holds; its numbers are below low

pub record At (H : Book → Dest → Type 0) (j : ℕ) (b : Book) (low : ℕ) (s : Station) : Type 0 where
  pub slot : StationSlot
  pub there : slot_of j s ≡ some slot
  pub holds : H b slot.dest
  pub below : under low (seqs b.accepted) ≡ true

pub notes-join : (j : ℕ) (g h : List Gets) (b : Book) → notes j (g ++ h) b ≡ notes j h (notes j g b)
notes-join j [] h b = refl
notes-join j (x ∷ g) h b = notes-join j g h (whether eqb x.place j then note_one x b else b)

-- an open gets no call
pub open-gets : (j k : ℕ) (ws : List ℕ) (s : Station) (b : Book) (o : Option StationSlot) → notes j (gets_at k 0 ws s o) b ≡ b
unfolding gets_at decode read rejected number_letters letters_get
open-gets j k ws s b none = refl
open-gets j k ws s b (some x) = refl

first_word : (ws : List ℕ) → at 0 (opening_words ws) ≡ at 0 ws
first_word [] = refl
first_word (a ∷ ws) = refl

low-place : (lent : StationLengths) (j : ℕ) (ws : List ℕ) (s : Station) → (station_step lent j 0 ws s).refusal ≡ 0 → j ≤ 7
unfolding station_step
low-place lent j ws s h =
    let a = past (Station.station_short lent) 1 s _ h (omega arith) in
    let b = past (Station.not_there j 0 s) 10 s _ a.2 (omega arith) in
    ltb-false 7 j (or-no-left (ltb 7 j) _ b.0)

-- numbers that rise from one to another
abbrev Rises : ℕ → List Entry → ℕ → Type 0
Rises low [] high = low ≤ high
Rises low (e ∷ es) high = (low ≤ e.seq) × Rises (e.seq + 1) es high

pub number-slots : (es : List Entry) (s : Station) → (number_letters es s).station.slots ≡ s.slots
unfolding number_letters
number-slots [] s = refl
number-slots (e ∷ es) s = by-if (λ (n : Numbered). n.station.slots ≡ s.slots) (ltb s.next (2 ^ 63)) _ _ (λ c. number-slots es (took_number s)) (λ c. number-slots es (losing_letter s))

number-rises : (es : List Entry) (s : Station) → Rises s.next (number_letters es s).letters (number_letters es s).station.next
unfolding number_letters
number-rises [] s = omega arith
number-rises (e ∷ es) s = by-if (λ (n : Numbered). Rises s.next n.letters n.station.next) (ltb s.next (2 ^ 63)) _ _ (λ c. (omega arith, number-rises es (took_number s))) (λ c. number-rises es (losing_letter s))

-- what every accepted call with new numbers keeps, all calls on a station keep
module _ (H : Book → Dest → Type 0)
    (keeps : (k code : ℕ) (ws : List ℕ) (c : Call) (b : Book) (t : Dest) → 1 ≤ code → decode code ws ≡ some c → (call whole c t).refusal ≡ 0
    → all (λ e. not (member e.seq (seqs b.accepted))) (brought c) ≡ true → H b t → H (note_one (gets_call k c t) b) (call whole c t).dest) where
  lift : (j : ℕ) (b : Book) (low high : ℕ) (s : Station) → low ≤ high → At H j b low s → At H j b high s
  lift j b low high s g a = record { slot = a.slot; there = a.there; holds = a.holds; below = under_more low high (seqs b.accepted) g a.below }

  -- where the places are the same
  still : (j : ℕ) (b : Book) (low : ℕ) (s u : Station) → u.slots ≡ s.slots → At H j b low s → At H j b low u
  still j b low s u e a = record { slot = a.slot; there = ap (λ l. slot_of j (record { slots = l; next = 0; lost = 0 })) e ∙ a.there; holds = a.holds; below = a.below }

  -- where another place is changed
  pub elsewhere : (j k : ℕ) (b : Book) (low : ℕ) (s : Station) (o : Option StationSlot) → (k ≡ j → ⊥) → At H j b low s → At H j b low (put_slot k o s)
  elsewhere j k b low s o n a = record { slot = a.slot; there = place_other k j s o (λ e. n (sym e)) ∙ a.there; holds = a.holds; below = a.below }

  -- one destination gets an accepted call
  got : (j k code : ℕ) (ws : List ℕ) (x : StationSlot) (c : Call) (s : Station) → slot_of k s ≡ some x → 1 ≤ code → decode code ws ≡ some c → (call whole c x.dest).refusal ≡ 0
      → (b : Book) (low high : ℕ) → low ≤ high → within low high (seqs (brought c)) ≡ true → At H j b low s → At H j (notes j (gets_call k c x.dest ∷ []) b) high (put_dest k x (call whole c x.dest).dest s)
  got j k code ws x c s q n e h b low high g w a = by-test (eqb k j)
      (λ d. subst⁻¹ (λ (m : Book). At H j m high (put_dest k x (call whole c x.dest).dest s)) (if-true (note_one (gets_call k c x.dest) b) b d) (here (eqb-true k j d)))
      (λ d. subst⁻¹ (λ (m : Book). At H j m high (put_dest k x (call whole c x.dest).dest s)) (if-false (note_one (gets_call k c x.dest) b) b d) (lift j b low high _ g (elsewhere j k b low s _ (eqb-false k j d) a)))
    where
      here : k ≡ j → At H j (note_one (gets_call k c x.dest) b) high (put_dest k x (call whole c x.dest).dest s)
      here d = record {
        slot = with_dest (call whole c x.dest).dest x;
        there = ap (λ (m : ℕ). slot_of m (put_dest k x (call whole c x.dest).dest s)) (sym d) ∙ place-put k s x (some (with_dest (call whole c x.dest).dest x)) q;
        holds = keeps k code ws c b x.dest n e h (all_new low high b.accepted (brought c) a.below w) (subst (λ (y : StationSlot). H b y.dest) (some_inj (sym a.there ∙ ap (λ (m : ℕ). slot_of m s) (sym d) ∙ q)) a.holds);
        below = ap (under high) (map-append (λ v. v.seq) b.accepted (brought c)) ∙ all-joined (λ m. ltb m high) (seqs b.accepted) (seqs (brought c)) ∙ and_both (under high (seqs b.accepted)) _ (under_more low high (seqs b.accepted) g a.below) (within-under low high (seqs (brought c)) w);
      }

  -- ---- dead letters

  went-stays : (j now : ℕ) (e : Entry) (s : Station) (p : ℕ) (g : List Gets) (u : Station) (b : Book) (low : ℕ) → Went now e s p g u → low ≤ e.seq → At H j b low s → At H j (notes j g b) (e.seq + 1) u
  went-stays j now e s p g u b low lost n a = lift j b low (e.seq + 1) (losing_letter s) (omega (arith, n)) (still j b low s (losing_letter s) refl a)
  went-stays j now e s p g u b low (kept k x q h) n a =
      got j k 1 (letter_words e now) x (enqueuing e now) s q (omega arith) (stored-decodes e now x.dest h) h b low (e.seq + 1) (omega (arith, n)) (within-one low (e.seq + 1) e.seq n (omega arith)) a

  letters-stay : (j hops now k : ℕ) (es : List Entry) (low high : ℕ) (s : Station) (b : Book) → Rises low es high → At H j b low s → At H j (notes j (letters_get hops now k es s) b) high (running hops now k es s).station
  unfolding letters_get running
  letters-stay j hops now k [] low high s b r a = lift j b low high s r a
  letters-stay j hops now k (e ∷ es) low high s b r a =
      subst⁻¹ (λ (d : Book). At H j d high (each (storing hops now k) es (storing hops now k e s).station).station) (notes-join j (letter_gets hops now k e s) (letters_get hops now k es (storing hops now k e s).station) b)
      (letters-stay j hops now k es (e.seq + 1) high (storing hops now k e s).station (notes j (letter_gets hops now k e s) b) r.1 (went-stays j now e s _ _ _ b low (letter-went hops now k e s) r.0 a))

  -- ---- the call's own destination

  module _ (j k code : ℕ) (ws : List ℕ) (s : Station) (x : StationSlot) (q : slot_of k s ≡ some x) (n : 1 ≤ code) where
    own_at : (b : Book) (o : Option Call) → call_said code ws s ≡ o → (call_step whole x.dest o).refusal ≡ 0 → At H j b s.next s
        → At H j (notes j (own_gets k o x.dest) b) (Station.called k code x (call_step whole x.dest o).dest s).next (Station.called k code x (call_step whole x.dest o).dest s)
    unfolding call_step
    own_at b none e h a = absurd (none-refused whole x.dest h)
    own_at b (some c) e h a = by-if (λ (u : Station). At H j (notes j (gets_call k c x.dest ∷ []) b) u.next u) (eqb code 1) (took_number put) put
        (λ d. still j (notes j (gets_call k c x.dest ∷ []) b) (s.next + 1) put (took_number put) refl (comes (s.next + 1) (omega arith) (direct d)))
        (λ d. comes s.next (omega arith) (ap (within s.next s.next) (numbers ∙ if-false (at 0 (carried code ws s) ∷ []) [] d)))
      where
        put : Station
        put = put_dest k x (call whole c x.dest).dest s

        numbers : seqs (brought c) ≡ (whether eqb code 1 then at 0 (carried code ws s) ∷ [] else [])
        numbers = brought-numbers code (carried code ws s) c e

        -- a direct enqueue brings the next number
        direct : eqb code 1 ≡ true → within s.next (s.next + 1) (seqs (brought c)) ≡ true
        direct d =
            let v : seqs (brought c) ≡ s.next ∷ [] = numbers ∙ if-true _ [] d ∙ ap (λ (l : List ℕ). at 0 l ∷ []) (if-true (s.next ∷ drop 1 ws) ws d) in
            ap (within s.next (s.next + 1)) v ∙ within-one s.next (s.next + 1) s.next (omega arith) (omega arith)

        comes : (high : ℕ) → s.next ≤ high → within s.next high (seqs (brought c)) ≡ true → At H j (notes j (gets_call k c x.dest ∷ []) b) high put
        comes high g w = got j k code (carried code ws s) x c s q n e h b s.next high g w a

    -- and then its dead letters
    done_at : (b : Book) → (step whole code (carried code ws s) x.dest).refusal ≡ 0 → At H j b s.next s
        → let r = Station.accepted_at k code x (step whole code (carried code ws s) x.dest) (rejected x.dest (call_said code ws s)) (clock_of (call_said code ws s)) s in At H j (notes j (gets_at k code ws s (some x)) b) r.station.next r.station
    unfolding gets_at Station.accepted_at
    done_at b h a =
        let e = step_call whole code (carried code ws s) x.dest n in
        let v = own_at b (call_said code ws s) refl (ap (λ (r : Result). r.refusal) (sym e) ∙ h) a in
        let u : Station = Station.called k code x (step whole code (carried code ws s) x.dest).dest s in
        let es : List Entry = rejected x.dest (call_said code ws s) in
        let now : ℕ = clock_of (call_said code ws s) in
        let m : Numbered = call_letters k code ws s x in
        let d : Book = notes j (own_gets k (call_said code ws s) x.dest) b in
        let v' : At H j d u.next u = subst⁻¹ (λ (r : Result). At H j (notes j (own_gets k (call_said code ws s) x.dest) b) (Station.called k code x r.dest s).next (Station.called k code x r.dest s)) e v in
        let ran = letters-stay j hops_max now x.name m.letters u.next m.station.next m.station d (number-rises es u) (still j d u.next u m.station (number-slots es u) v') in
        subst⁻¹ (λ (f : Book). At H j f (running hops_max now x.name m.letters m.station).station.next (running hops_max now x.name m.letters m.station).station)
        (notes-join j (own_gets k (call_said code ws s) x.dest) (letters_get hops_max now x.name m.letters m.station) b)
        (lift j _ m.station.next _ _ (omega (arith, running-next hops_max now x.name m.letters m.station)) ran)

  -- ---- calls on a station

  pub call-at : (j : ℕ) (lent : StationLengths) (k code : ℕ) (ws : List ℕ) (s : Station) (b : Book) → 1 ≤ code → (station_step lent k code ws s).refusal ≡ 0 → At H j b s.next s → At H j (book_after j k code ws s b) (station_step lent k code ws s).station.next (station_step lent k code ws s).station
  call-at j lent k code ws s b n h a =
      let p = passed lent k code ws s n h in
      subst⁻¹ (λ (o : Option StationSlot). At H j (notes j (gets_at k code ws s o) b) (station_step lent k code ws s).station.next (station_step lent k code ws s).station) p.there
      (subst⁻¹ (λ (r : StationResult). At H j (notes j (gets_at k code ws s (some p.slot)) b) r.station.next r.station) p.result (done_at j k code ws s p.slot p.there n b p.own a))

  -- an open of another destination
  pub open-at : (j : ℕ) (lent : StationLengths) (k : ℕ) (ws : List ℕ) (s : Station) (b : Book) → (k ≡ j → ⊥) → (station_step lent k 0 ws s).refusal ≡ 0 → At H j b s.next s → At H j (book_after j k 0 ws s b) (station_step lent k 0 ws s).station.next (station_step lent k 0 ws s).station
  open-at j lent k ws s b n h a =
      subst⁻¹ (λ (d : Book). At H j d (station_step lent k 0 ws s).station.next (station_step lent k 0 ws s).station) (open-gets j k ws s b (slot_of k s))
      (subst⁻¹ (λ (r : StationResult). At H j b r.station.next r.station) (opened lent k ws s h).1 (elsewhere j k b s.next s (some (opened_slot ws)) n a))

  pub any_at : (j : ℕ) (lent : StationLengths) (k code : ℕ) (ws : List ℕ) (s : Station) (b : Book) → (code ≡ 0 → k ≡ j → ⊥) → (station_step lent k code ws s).refusal ≡ 0 → At H j b s.next s → At H j (book_after j k code ws s b) (station_step lent k code ws s).station.next (station_step lent k code ws s).station
  any_at j lent k code ws s b d h a = by-test (eqb code 0)
      (λ c. opening-at (eqb-true code 0 c) h)
      (λ c. call-at j lent k code ws s b (omega (arith, eqb-false code 0 c)) h a)
    where
      opening-at : code ≡ 0 → (station_step lent k code ws s).refusal ≡ 0 → At H j (book_after j k code ws s b) (station_step lent k code ws s).station.next (station_step lent k code ws s).station
      opening-at e = subst⁻¹ (λ (n : ℕ). (station_step lent k n ws s).refusal ≡ 0 → At H j (book_after j k n ws s b) (station_step lent k n ws s).station.next (station_step lent k n ws s).station) e (λ g. open-at j lent k ws s b (d e) g a)

  -- a call without a code on another destination
  pub counted-at : (j : ℕ) (lent : StationLengths) (k : ℕ) (c : Call) (s : Station) (b : Book) → (k ≡ j → ⊥) → (station_uncoded lent k c s).refusal ≡ 0 → At H j b s.next s → At H j b (station_uncoded lent k c s).station.next (station_uncoded lent k c s).station
  counted-at j lent k c s b n h a = let p = counted lent k c s h in subst⁻¹ (λ (u : Station). At H j b u.next u) p.left (elsewhere j k b s.next s _ n a)

  -- a queue is opened
  pub opens_at : (j : ℕ) (lent : StationLengths) (ws : List ℕ) (s : Station) → station_sound s ≡ true → (station_step lent j 0 ws s).refusal ≡ 0 → H empty_book (opened_by (opening_words ws)) → At H j empty_book (station_step lent j 0 ws s).station.next (station_step lent j 0 ws s).station
  opens_at j lent ws s y h g =
      subst⁻¹ (λ (r : StationResult). At H j empty_book r.station.next r.station) (opened lent j ws s h).1
      (record { slot = opened_slot ws; there = get_or-set_same s.slots j (some (opened_slot ws)) none (omega (arith, (facts s y).eight, low-place lent j ws s h)); holds = g; below = refl })

-- ---- the account

account-keeps : (k code : ℕ) (ws : List ℕ) (c : Call) (b : Book) (t : Dest) → 1 ≤ code → decode code ws ≡ some c → (call whole c t).refusal ≡ 0
    → all (λ e. not (member e.seq (seqs b.accepted))) (brought c) ≡ true → Account b.accepted b.gone t → Account (note_one (gets_call k c t) b).accepted (note_one (gets_call k c t) b).gone (call whole c t).dest
account-keeps k code ws c b t n e h new a =
    let q = called whole code ws c t n e in
    subst (λ (r : Result). Account (b.accepted ++ brought c) (b.gone ++ departures c t r.dest) r.dest) q (calling whole code ws c n e a (ap (λ (r : Result). r.refusal) q ∙ h) new)

abbrev Right : Book → Dest → Type 0
Right b t = Account b.accepted b.gone t

opened-right : (lent : StationLengths) (j : ℕ) (ws : List ℕ) (s : Station) → (station_step lent j 0 ws s).refusal ≡ 0 → kind_of (at 0 ws) ≡ queue → Right empty_book (opened_by (opening_words ws))
opened-right lent j ws s h k =
    let e = open-left (opening_words ws) (opened_by (opening_words ws)) (and_left (open_words (opening_words ws)) _ (opened lent j ws s h).0) in
    subst (λ (r : Result). Account [] [] r.dest) e (opening whole (opening_words ws) (opened_by (opening_words ws)) (ap (λ (r : Result). r.refusal) e) (ap (λ (r : Result). r.dest.kind) e ∙ ap kind_of (first_word ws) ∙ k))

pub booked : (j : ℕ) (b : Book) (s : Station) → Booked j b s → At Right j b s.next s
booked j b s (opens {cleared = c} {s = u} lent ws r h k) = opens_at Right account-keeps j lent ws u (reached-station-sound c u r) h (opened-right lent j ws u h k)
booked j b s (calls {b = d} {s = u} lent k code ws r h g) = any_at Right account-keeps j lent k code ws u d g h (booked j d u r)
booked j b s (discards {s = u} lent k r h g) = counted-at Right account-keeps j lent k discarding u b g h (booked j b u r)
booked j b s (misses {s = u} lent k r h g) = counted-at Right account-keeps j lent k missing u b g h (booked j b u r)

pub books-are-accounts : BooksAreAccounts
books-are-accounts j b s r = let a = booked j b s r in (a.slot, a.there, a.holds)

pub books-are-right : BooksAreRight
books-are-right j b s r =
    let a = booked j b s r in
    let t : Dest = a.slot.dest in
    (a.slot, a.there, record { each = each-in-one-place b.accepted b.gone t a.holds; total = enqueued-is-the-total b.accepted b.gone t a.holds; counters = counters-are-the-parts b.accepted b.gone t a.holds })

pub booked-is-reached : BookedIsReached
booked-is-reached j b s (opens {cleared = c} lent ws r h k) = (cleared_by j 0 c, going lent j 0 ws r h)
booked-is-reached j b s (calls {b = d} {s = u} lent k code ws r h g) = let p = booked-is-reached j d u r in (cleared_by k code p.0, going lent k code ws p.1 h)
booked-is-reached j b s (discards {s = u} lent k r h g) = let p = booked-is-reached j b u r in (cleared_by k 1 p.0, Orders.discards lent k p.1 h)
booked-is-reached j b s (misses {s = u} lent k r h g) = let p = booked-is-reached j b u r in (cleared_by k 1 p.0, Orders.misses lent k p.1 h)
