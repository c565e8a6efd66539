-- One look after a whole call of a station tells what left each of its queues, and so keeps their books. Assumes nothing.
use Prim.Native.Nat.{ℕ, suc, ◌+◌, ◌≤◌, ◌<◌, ◌^◌}
use native.Mathlib.Omega.{arith}
use mathlib.Core.Path.{◌≡◌, refl, sym, ◌∙◌, ap, ap₂, subst, subst⁻¹}
use mathlib.Core.Bool.{Bool, true, false, not, ◌&&◌, ◌||◌, true≢false}
use mathlib.Core.List.{List, [], ◌∷◌, ◌++◌, map, map-append, map-map, append-nil}
use mathlib.Core.Option.{Option, none, some}
use lib.Dec.{ltb, eqb}
use lib.ListN.{length, get_or, drop}
use borrow.Author.Tests.{ne_eqb, eqb-true, eqb-false, lt-ltb}
use Rattle.definition.specs.Base.{whether◌then◌else◌, keep, all, up_from}
use Rattle.definition.specs.Types.{queue, Id, Entry, Dest}
use Rattle.definition.specs.Consumer.{Ack}
use Rattle.definition.specs.Calls.{seqs, acknowledge, Call, enqueuing, asking, call}
use Rattle.definition.specs.Words.{at, decode}
use Rattle.definition.proofs.Tests.{by-test, and_left, and_right, and_both, if-true, if-false}
use Rattle.definition.proofs.Lists.{All, some_inj}
use Rattle.definition.proofs.Sums.{occ, occ-member}
use Rattle.definition.proofs.Reorder.{cons_head, cons_tail, nil-cons}
use Rattle.fates.specs.Fates.{holding, departures}
use Rattle.fates.specs.Blocks.{Block, block_of, block_at, held_blocks, comes}
use Rattle.fates.specs.Books.{left_block}
use Rattle.fates.proofs.Measures.{occ-steady}
use Rattle.fates.proofs.Sweeps.{holding-sum}
use Rattle.fates.proofs.Run as Run
use Rattle.fates.proofs.Claims.{accepted-is-a-call}
use Rattle.definition_station.specs.Types.{StationSlot, Station, slot_of}
use Rattle.definition_station.specs.Letters.{rejected_by, rejected, clock_of, whole}
use Rattle.definition_station.specs.Station.{StationLengths, StationResult, opened_slot, carried, station_step}
use Rattle.definition_station.proofs.Places.{facts, slot-sound, place_other}
use Rattle.definition_station.proofs.Sound.{Passed, passed, opened}
use Rattle.definition_station.proofs.Rejected.{by-rejected, other-silent, rejected-lasts, rejected-few}
use Rattle.definition_stationfates.specs.Books.{call_said, call_gets, calls_got, Makes, MakesAt, Book, empty_book, book_after}
use Rattle.definition_stationfates.specs.Told.{lost_place, ToldLetter, tell_each, told_at, told_letters, given_number, is_at, right_row, stored_as, own_calls, ToldRight}
use Rattle.definition_stationfates.proofs.Letters.{kept_low}
use Rattle.definition_stationfates.proofs.Rows.{rows-many}
use Rattle.definition_stationfates.proofs.Books.{under-new, open-gets, booked}
use Rattle.definition_stationfates.proofs.Made.{calls-are-made}
use Rattle.definition_stationfates.proofs.Told.{letters-told, open-tells-none}
use Rattle.definition_stationblocks.specs.StationBlocks.{blocks_gone, stored_block, blocks_came, storings, Rising, held_under, gone_along, OneLookTells, BookedHoldsGiven, BooksByOneLook, ToldFew}
use Rattle.definition_stationblocks.proofs.OneLook.{below-lists, call-is-told, ack-and-letters-are-told, letters-are-told-once, rest-is-told}
use Rattle.definition_stationblocks.proofs.Chain.{book-written}

-- ---- the rows of letters at one destination

-- a row at one of the eight has a number
right-number : (j : ℕ) (t : ToldLetter) → j < 8 → is_at j t ≡ true → right_row t ≡ true → eqb t.got 0 ≡ false
right-number j t p c r = has (ltb t.place 8) (eqb t.got 0) (eqb t.place 8) (ne_eqb t.place 8 (λ d. omega (arith, d, p, eqb-true t.place j c))) r
  where
    has : (a b d : Bool) → d ≡ false → (a && not b || d) ≡ true → b ≡ false
    has a false d e h = refl
    has true true d e h = absurd (true≢false (sym h ∙ e))
    has false true d e h = absurd (true≢false (sym h ∙ e))

-- and it is the one that is given
given_is : (n : ℕ) → eqb (given_number n) 0 ≡ false → given_number n ≡ n
given_is n h = by-test (ltb n (2 ^ 63)) (λ c. if-true n 0 c) (λ c. absurd (eqb-false (given_number n) 0 h (if-false n 0 c)))

rows-rise : (j low n : ℕ) (rows : List ToldLetter) → j < 8 → low ≤ n → map (λ t. t.got) rows ≡ map given_number (up_from n (length rows)) → all right_row rows ≡ true → Rising low (map stored_as (keep (is_at j) rows))
rows-rise j low n [] p h g r = tt
rows-rise j low n (t ∷ rows) p h g r = by-test (is_at j t)
    (λ c. rw c (omega (arith, h, got c), rows-rise j (t.got + 1) (suc n) rows p (omega (arith, got c)) (cons_tail g) (and_right (right_row t) _ r)))
    (λ c. rw c (rows-rise j low (suc n) rows p (omega (arith, h)) (cons_tail g) (and_right (right_row t) _ r)))
  where
    got : is_at j t ≡ true → t.got ≡ n
    got c = cons_head g ∙ given_is n (ap (λ (m : ℕ). eqb m 0) (sym (cons_head g)) ∙ right-number j t p c (and_left (right_row t) _ r))

-- their blocks are those of the entries that are stored
stored-blocks : (j : ℕ) (es : List Entry) (ns ps : List ℕ) → All (λ e. e.persistent ≡ true) es → map stored_block (keep (is_at j) (tell_each es ns ps)) ≡ map (block_at 0) (map stored_as (keep (is_at j) (tell_each es ns ps)))
stored-blocks j [] ns ps h = refl
stored-blocks j (e ∷ es) ns ps h = by-test (eqb (get_or ps 0 lost_place) j)
    (λ c. rw c (ap₂ (λ (p : Bool) (bs : List Block). block_of (at 0 ns) 0 p ∷ bs) (sym h.0) (stored-blocks j es (drop 1 ns) (drop 1 ps) h.1)))
    (λ c. rw c (stored-blocks j es (drop 1 ns) (drop 1 ps) h.1))

-- ---- the calls of one queue

-- a call makes no letter, or it is an acknowledgement that makes some
data Rejects (t : Dest) (code : ℕ) (o : Option Call) : Type 0 where
  rests : rejected t o ≡ [] → Rejects t code o
  acks : (i : Id) (a : Ack) (now : ℕ) → code ≡ 4 → o ≡ some (asking i (acknowledge a now)) → (rejected_by i a t ≡ [] → ⊥) → Rejects t code o

rejects : (t : Dest) (code : ℕ) (ws : List ℕ) → Rejects t code (decode code ws)
unfolding decode
rejects t code ws = by-test (eqb code 4)
    (λ y. by-rejected t (λ o l. rejected t o ≡ l → Rejects t code o) (λ o e. rests e) (λ i a now e. some-made y i a now (rejected_by i a t) refl e) (decode code ws) refl)
    (λ n. rests (other-silent code ws t n))
  where
    some-made : eqb code 4 ≡ true → (i : Id) (a : Ack) (now : ℕ) (l : List Entry) → rejected_by i a t ≡ l → rejected t (some (asking i (acknowledge a now))) ≡ rejected_by i a t → Rejects t code (some (asking i (acknowledge a now)))
    some-made y i a now [] q e = rests (e ∙ q)
    some-made y i a now (v ∷ l) q e = acks i a now (eqb-true code 4 y) refl (λ z. nil-cons (sym z ∙ q))

-- what a queue gets: the call itself, if it is its own, and the letters that are stored there
abbrev gets : Bool → Call → List Entry → List Call
gets own c es = (whether own then c ∷ [] else []) ++ storings (clock_of (some c)) es

-- and what comes to it
abbrev came : Bool → ℕ → List ℕ → List Entry → List Block
came own code ws es = (whether own then comes code ws else []) ++ map (block_at 0) es

module _ (t u : Dest) (k : t.kind ≡ queue) where
  abbrev Told : Bool → ℕ → List ℕ → Call → List Entry → Type 0
  Told own code ws c es = Makes (gets own c es) t u → blocks_gone code ws u (held_blocks t) (came own code ws es) ≡ map left_block (gone_along (gets own c es) t)

  -- no letters
  told-alone : (own : Bool) (code : ℕ) (ws : List ℕ) (c : Call) → 1 ≤ code → decode code ws ≡ some c → Told own code ws c []
  told-alone true code ws c n e m =
      ap₂ (λ (v : Dest) (bs : List Block). blocks_gone code ws v (held_blocks t) bs) m.1 (append-nil (comes code ws))
      ∙ call-is-told code ws c t n e k m.0
      ∙ ap (map left_block) (sym (append-nil (departures c t (call whole c t).dest)))
  told-alone false code ws c n e m = ap (λ (v : Dest). blocks_gone code ws v (held_blocks t) []) m ∙ rest-is-told code ws t k

  -- letters of an acknowledgement, of this queue or of another
  module _ (low : ℕ) (b : held_under low t) (es : List Entry) (w : Rising low es) where
    told-letters : (own : Bool) (ws : List ℕ) (i : Id) (a : Ack) (now : ℕ) → decode 4 ws ≡ some (asking i (acknowledge a now)) → (own ≡ true → rejected_by i a t ≡ [] → ⊥) → Told own 4 ws (asking i (acknowledge a now)) es
    unfolding clock_of
    told-letters true ws i a now d r m = ack-and-letters-are-told ws i a now low t u es d k (r refl) b w m
    told-letters false ws i a now d r m = letters-are-told-once ws now low t u es k b w m

    -- by the letters that the call makes at v, its own destination
    told-by : (own : Bool) (code : ℕ) (ws : List ℕ) (c : Call) (v : Dest) → 1 ≤ code → decode code ws ≡ some c → (own ≡ true → v ≡ t) → (rejected v (some c) ≡ [] → es ≡ []) → Rejects v code (some c) → Told own code ws c es
    told-by own code ws c v n e same none-come (rests z) = subst⁻¹ (Told own code ws c) (none-come z) (told-alone own code ws c n e)
    told-by own code ws c v n e same none-come (acks i a now four q r) =
        subst⁻¹ (λ (d : ℕ). Told own d ws c es) four
        (subst⁻¹ (λ (d : Call). Told own 4 ws d es) (some_inj q)
        (told-letters own ws i a now (ap (λ (d : ℕ). decode d ws) (sym four) ∙ e ∙ q) (λ o z. r (ap (rejected_by i a) (same o) ∙ z))))

-- ---- the whole call

module _ (lent : StationLengths) (k code : ℕ) (ws : List ℕ) (s : Station) (n : 1 ≤ code) (h : (station_step lent k code ws s).refusal ≡ 0)
    (j : ℕ) (x y : StationSlot) (q : slot_of j s ≡ some x) (z : slot_of j (station_step lent k code ws s).station ≡ some y) where
  abbrev words : List ℕ
  words = carried code ws s

  abbrev rows : List ToldLetter
  rows = keep (is_at j) (told_letters k code ws s)

  abbrev letters : List Entry
  letters = map stored_as rows

  abbrev p : Passed lent k code ws s
  p = passed lent k code ws s n h

  abbrev own : Dest
  own = p.slot.dest

  right : ToldRight k code ws s (station_step lent k code ws s) (told_letters k code ws s)
  right = letters-told lent k code ws s n h

  low : j < 8
  low = kept_low j x s (facts s p.is-sound) q

  said : (c : Call) × (call_said code ws s ≡ some c)
  said = accepted-is-a-call whole code words own n p.own

  -- the calls that j gets
  got : calls_got j (call_gets k code ws s) ≡ gets (eqb k j) said.0 letters
  got = right.stores j low ∙ ap (λ (o : Option Call). (whether eqb k j then own_calls o else []) ++ map (λ t. enqueuing (stored_as t) (clock_of o)) rows) said.1
      ∙ ap (λ (l : List Call). (whether eqb k j then said.0 ∷ [] else []) ++ l) (sym (map-map (λ e. enqueuing e (clock_of (some said.0))) stored_as rows))

  makes : Makes (gets (eqb k j) said.0 letters) x.dest y.dest
  makes =
      let m = subst (λ (o : Option StationSlot). MakesAt (calls_got j (call_gets k code ws s)) o (slot_of j (station_step lent k code ws s).station)) q (calls-are-made lent k code ws s n h j) in
      let e : m.0 ≡ y.dest = ap (λ (v : StationSlot). v.dest) (some_inj (sym m.1 ∙ z)) in
      subst (λ (l : List Call). Makes l x.dest y.dest) got (subst (Makes (calls_got j (call_gets k code ws s)) x.dest) e m.2)

  -- no letters, where the call rejects none
  none-stored : rejected own (some said.0) ≡ [] → letters ≡ []
  unfolding told_at
  none-stored e =
      ap (λ (l : List ToldLetter). map stored_as (keep (is_at j) l))
      (ap (told_at k code ws s) p.there ∙ no_rows (rejected own (call_said code ws s)) _ _ (ap (rejected own) said.1 ∙ e))
    where
      no_rows : (es : List Entry) (ns ps : List ℕ) → es ≡ [] → tell_each es ns ps ≡ []
      no_rows [] ns ps g = refl
      no_rows (v ∷ es) ns ps g = absurd (nil-cons (sym g))

  come-as : map stored_block rows ≡ map (block_at 0) letters
  unfolding told_at
  come-as = subst⁻¹ (λ (o : Option StationSlot). map stored_block (keep (is_at j) (told_at k code ws s o)) ≡ map (block_at 0) (map stored_as (keep (is_at j) (told_at k code ws s o)))) p.there
      (stored-blocks j (rejected own (call_said code ws s)) _ _ (rejected-lasts own (call_said code ws s)))

  look-told : x.dest.kind ≡ queue → held_under s.next x.dest
      → blocks_gone code words y.dest (held_blocks x.dest) (blocks_came j k code ws s) ≡ map left_block (gone_along (calls_got j (call_gets k code ws s)) x.dest)
  look-told kind b =
      ap (λ (l : List Block). blocks_gone code words y.dest (held_blocks x.dest) ((whether eqb k j then comes code words else []) ++ l)) come-as
      ∙ told-by x.dest y.dest kind s.next b letters (rows-rise j s.next s.next (told_letters k code ws s) low (omega arith) right.numbers right.places) (eqb k j) code words said.0 own n said.1
      (λ d. ap (λ (v : StationSlot). v.dest) (some_inj (sym p.there ∙ ap (λ (i : ℕ). slot_of i s) (eqb-true k j d) ∙ q)))
      none-stored (subst (Rejects own code) said.1 (rejects own code words)) makes
      ∙ ap (λ (l : List Call). map left_block (gone_along l x.dest)) (sym got)

  book-told : x.dest.kind ≡ queue → held_under s.next x.dest → (b : Book)
      → map left_block (book_after j k code ws s b).gone ≡ map left_block b.gone ++ blocks_gone code words y.dest (held_blocks x.dest) (blocks_came j k code ws s)
  book-told kind u b =
      ap (map left_block) (book-written lent k code ws s n h j x q b)
      ∙ map-append left_block b.gone (gone_along (calls_got j (call_gets k code ws s)) x.dest)
      ∙ ap (λ (l : List Block). map left_block b.gone ++ l) (sym (look-told kind u))

pub one-look-tells : OneLookTells
one-look-tells lent k code ws s n h j x y q z kind u = sym (book-told lent k code ws s n h j x y q z kind u empty_book)

-- ---- with a book

-- numbers that are given are below the next
pub booked-holds-given : BookedHoldsGiven
booked-holds-given j b s r x q =
    let a = booked j b s r in
    let e : a.slot.dest ≡ x.dest = ap (λ (v : StationSlot). v.dest) (some_inj (sym a.there ∙ q)) in
    let k = Run.kept b.accepted b.gone a.slot.dest a.holds in
    subst (λ (t : Dest). (t.kind ≡ queue) × held_under s.next t) e (
      k.kind,
      all_under s.next (holding a.slot.dest) (below-lists s.next a.slot.dest (holding a.slot.dest) (λ v. omega (arith, holding-sum (occ v) a.slot.dest))
          (λ v g. omega (arith, k.sums (occ v) (occ-steady v), occ-member v b.accepted (under-new s.next v (seqs b.accepted) a.below g)))),
    )
  where
    all_under : (n : ℕ) (l : List Entry) → All (λ v. v.seq < n) l → all (λ m. ltb m n) (seqs l) ≡ true
    all_under n [] h = refl
    all_under n (v ∷ l) h = and_both (ltb v.seq n) _ (lt-ltb v.seq n h.0) (all_under n l h.1)

-- an open of another destination
open_told : (lent : StationLengths) (k : ℕ) (ws : List ℕ) (s : Station) (j : ℕ) (b : Book) → (station_step lent k 0 ws s).refusal ≡ 0 → (k ≡ j → ⊥)
    → (x y : StationSlot) → slot_of j s ≡ some x → slot_of j (station_step lent k 0 ws s).station ≡ some y → x.dest.kind ≡ queue
    → map left_block (book_after j k 0 ws s b).gone ≡ map left_block b.gone ++ blocks_gone 0 ws y.dest (held_blocks x.dest) (blocks_came j k 0 ws s)
open_told lent k ws s j b h d x y q z kind =
    let same : x ≡ y = some_inj (sym q ∙ sym (place_other k j s (some (opened_slot ws)) (λ e. d (sym e))) ∙ ap (λ (r : StationResult). slot_of j r.station) (sym (opened lent k ws s h).1) ∙ z) in
    let came : blocks_came j k 0 ws s ≡ [] = ap₂ (λ (v : Bool) (l : List ToldLetter). (whether v then [] else []) ++ map stored_block (keep (is_at j) l)) (ne_eqb k j d) (open-tells-none k ws s) in
    ap (λ (v : Book). map left_block v.gone) (open-gets j k ws s b (slot_of k s))
    ∙ sym (append-nil (map left_block b.gone))
    ∙ ap (λ (l : List Block). map left_block b.gone ++ l) (sym (ap₂ (λ (v : StationSlot) (l : List Block). blocks_gone 0 ws v.dest (held_blocks x.dest) l) (sym same) came ∙ rest-is-told 0 ws x.dest kind))

pub books-by-one-look : BooksByOneLook
books-by-one-look lent k code ws s j b r h d x y q z = by-test (eqb code 0)
    (λ c. opens (eqb-true code 0 c) h z)
    (λ c. book-told lent k code ws s (omega (arith, eqb-false code 0 c)) h j x y q z u.0 u.1 b)
  where
    u : (x.dest.kind ≡ queue) × held_under s.next x.dest
    u = booked-holds-given j b s r x q

    opens : code ≡ 0 → (station_step lent k code ws s).refusal ≡ 0 → slot_of j (station_step lent k code ws s).station ≡ some y
        → map left_block (book_after j k code ws s b).gone ≡ map left_block b.gone ++ blocks_gone code (carried code ws s) y.dest (held_blocks x.dest) (blocks_came j k code ws s)
    opens e = subst⁻¹ (λ (i : ℕ). (station_step lent k i ws s).refusal ≡ 0 → slot_of j (station_step lent k i ws s).station ≡ some y
        → map left_block (book_after j k i ws s b).gone ≡ map left_block b.gone ++ blocks_gone i (carried i ws s) y.dest (held_blocks x.dest) (blocks_came j k i ws s)) e
        (λ g v. open_told lent k ws s j b g (d e) x y q v u.0)

-- ---- how many

pub told-few : ToldFew
unfolding told_at
told-few k code ws s y = by-slot (slot_of k s) refl
  where
    by-slot : (o : Option StationSlot) → slot_of k s ≡ o → length (told_at k code ws s o) ≤ 512
    by-slot none e = omega arith
    by-slot (some x) e = subst⁻¹ (λ (n : ℕ). n ≤ 512) (rows-many (rejected x.dest (call_said code ws s)) _ _) (rejected-few x.dest (slot-sound k s x (facts s y) e).0 (call_said code ws s))
