-- What a report of a station's file keeps along its calls are the books of its queues. Assumes nothing.
use Prim.Native.Nat.{ℕ, zero, suc, ◌+◌, ◌<◌}
use native.Mathlib.Nat.{zero-add, suc-add, add-zero, add-suc, not-suc-le-zero, le_of_suc-le-suc}
use native.Mathlib.Omega.{arith}
use mathlib.Core.Path.{◌≡◌, refl, sym, ap, ap₂, ◌∙◌, subst, subst⁻¹}
use mathlib.Core.Bool.{Bool, true, false, not, ◌&&◌, ◌||◌, true≢false}
use mathlib.Core.List.{List, [], ◌∷◌, ◌++◌, map, append-nil}
use mathlib.Core.Option.{Option, none, some}
use borrow.Author.Tests.{eqb-true, eqb-false, eq-eqb}
use lib.Dec.{ltb, eqb}
use lib.ListN.{length, get_or, set, replicate, get_or-replicate}
use Rattle.stats.specs.Counted.{more}
use Rattle.definition.specs.Base.{whether◌then◌else◌, every, find, is_some}
use Rattle.definition.specs.Types.{queue}
use Rattle.definition.specs.Queries.{is_queue}
use Rattle.definition.specs.Words.{at, kind_of, read, decode}
use Rattle.definition.specs.Layout.{Row}
use Rattle.definition.proofs.Tests.{by-test, by-if, if-true, if-false, and_left, and_right, and_both}
use Rattle.definition.proofs.Lists.{none-some}
use Rattle.fates.specs.Blocks.{Block, held_blocks, account_of}
use Rattle.fates.specs.Books.{left_block}
use Rattle.fates.proofs.Claims.{accepted-is-a-call}
use Rattle.definition_station.specs.Types.{StationSlot, Station, slot_of}
use Rattle.definition_station.specs.Letters.{whole}
use Rattle.definition_station.specs.Station.{StationLengths, StationResult, station_short, station_start, not_there, carried, station_step}
use Rattle.definition_station.specs.Orders.{ReachedStation, starting, going, cleared_by, station_result}
use Rattle.definition_station.proofs.Places.{Facts, facts, slot-sound}
use Rattle.definition_station.proofs.Sound.{passed}
use Rattle.definition_station.proofs.Refusals.{station-kept}
use Rattle.definition_station.proofs.Reached.{reached-station-sound}
use Rattle.definition_stationfates.specs.Books.{Book, empty_book, book_after, Booked, opens, opens_place, book_next, book_along}
use Rattle.definition_stationfates.proofs.Letters.{kept_low}
use Rattle.definition_stationfates.proofs.Books.{open-gets, books-are-accounts, booked-is-reached}
use Rattle.definition_stationfates.proofs.Along.{books-along}
use Rattle.definition_stationblocks.specs.StationBlocks.{blocks_came}
use Rattle.definition_stationblocks.proofs.Station.{booked-holds-given, books-by-one-look}
use Rattle.calls.specs.declared.Call.{Call}
use Rattle.callfile.specs.Cutting.{cut_blocks}
use Rattle.reportlines.specs.ReportLines.{all_gone, gone_after}
use Rattle.reporting.specs.ReportBooks.{gone_to}
use Rattle.reporting.proofs.ReportBooks.{counted, each-joined, blocks-are-calls}
use Rattle.running.specs.Running.{each_call}
use Rattle.stationrun.specs.StationRuns.{LentStation, file_code, file_place, start_on, station_on, file_call, taken_by}
use Rattle.stationrun.specs.StationFiles.{zero_station, station_run_lengths}
use Rattle.stationreport.specs.StationReporting.{each_place, place_held, holds_at, StationNoting, gone_row, gone_by_words, is_work, words_got, slot_gone, left_at, anew_at, station_noted, station_report_call}
use Rattle.stationreport.specs.StationReportFiles.{zero_notes}
use Rattle.stationreport.specs.StationReportBooks.{as_station_call, starts_station, KeepsBook, station_kept_after, station_kept_at_end, CallTellsBook, CallsKeepStationBooks, FileKeepsStationBooks}
use Rattle.stationreport.proofs.EachPlace.{each-many}
use Rattle.stationreport.proofs.Works.{refused-rests, open-rests, none_left}

-- ---- rows of places

module _ (f : ℕ → Row → Row) where
  each_at : (i j : ℕ) (gs : List Row) → j < length gs → get_or (each_place f i gs) j [] ≡ f (j + i) (get_or gs j [])
  unfolding each_place
  each_at i j [] h = absurd (not-suc-le-zero h)
  each_at i zero (g ∷ gs) h = ap (λ (n : ℕ). f n g) (sym (zero-add i))
  each_at i (suc j) (g ∷ gs) h = each_at (suc i) j gs (le_of_suc-le-suc h) ∙ ap (λ (n : ℕ). f n (get_or gs j [])) (add-suc j i ∙ sym (suc-add j i))

-- ---- a call of a file, and the station's

-- none has the code of a start
no_start : (lent : StationLengths) (k : ℕ) (ws : List ℕ) (s : Station) → (station_step lent k 16 ws s).refusal ≡ 0 → ⊥
unfolding decode read
no_start lent k ws s h = let p = passed lent k 16 ws s (omega arith) h in none-some (accepted-is-a-call whole 16 (carried 16 ws s) p.slot.dest (omega arith) p.own).1

last-false : (x y z w : Bool) → w ≡ true → (x && (y && (z && not w))) ≡ false
last-false false y z w e = refl
last-false true false z w e = refl
last-false true true false w e = refl
last-false true true true w e = ap not e

abbrev got : Call → LentStation → StationResult
got c s = file_call station_run_lengths c s

abbrev made : Call → LentStation → StationResult
made c s = station_result (as_station_call c) s.station

-- they are accepted alike, and leave the same station; no start is accepted
record Alike (c : Call) (s : LentStation) : Type 0 where
  taken : taken_by (got c s) ≡ taken_by (made c s)
  station : (got c s).station ≡ (made c s).station
  coded : taken_by (got c s) ≡ true → eqb (file_code c) 16 ≡ false

module _ (c : Call) (s : LentStation) where
  same-call : s.fits ≡ replicate 8 true → eqb (file_code c) 16 ≡ false → got c s ≡ made c s
  unfolding file_call station_on
  same-call f e = if-false _ _ e ∙ if-false _ _ (last-false (not (station_short station_run_lengths)) (not (not_there (file_place c) (file_code c) s.station)) (not (eqb (file_code c) 0)) (every s.fits) (ap every f))

  abbrev Refused : StationResult → Type 0
  Refused r = (taken_by r ≡ false) × (r.station ≡ s.station)

  made-refused : taken_by (made c s) ≡ false → Refused (made c s)
  made-refused t = (t, ap (λ (r : StationResult). r.station) (station-kept station_run_lengths (file_place c) (file_code c) c.words s.station (eqb-false _ 0 t)))

  start-refused : eqb (file_code c) 16 ≡ true → starts_station c ≡ false → Refused (got c s)
  unfolding file_call start_on
  start-refused e n = subst⁻¹ Refused (if-true _ _ e) (by-if Refused (station_short station_run_lengths) _ _ (λ a. (refl, refl)) (λ a. by-if Refused (ltb 7 (file_place c)) _ _ (λ d. (refl, refl))
      (λ d. by-if Refused _ _ _ (λ v. absurd (true≢false (sym (and_both (eqb (file_code c) 16) _ e v) ∙ n))) (λ v. (refl, refl)))))

  start-not-made : eqb (file_code c) 16 ≡ true → taken_by (made c s) ≡ false
  start-not-made e = by-test (taken_by (made c s))
      (λ t. absurd (no_start station_run_lengths (file_place c) c.words s.station (subst (λ (n : ℕ). (station_step station_run_lengths (file_place c) n c.words s.station).refusal ≡ 0) (eqb-true (file_code c) 16 e) (eqb-true _ 0 t))))
      (λ t. t)

  alike : s.fits ≡ replicate 8 true → starts_station c ≡ false → Alike c s
  alike f n = by-test (eqb (file_code c) 16)
      (λ e. let a = start-refused e n in
      let b = made-refused (start-not-made e) in
      record { taken = a.0 ∙ sym b.0; station = a.1 ∙ sym b.1; coded = λ t. absurd (true≢false (sym t ∙ a.0)) })
      (λ e. let q = same-call f e in
      record { taken = ap taken_by q; station = ap (λ (r : StationResult). r.station) q; coded = λ t. e })

-- ---- what every call keeps

record Stands (s : StationNoting) : Type 0 where
  fits : s.lent.fits ≡ replicate 8 true
  places : length s.gone ≡ 8

set_all : (n k : ℕ) → set (replicate n true) k true ≡ replicate n true
set_all zero k = refl
set_all (suc n) zero = refl
set_all (suc n) (suc k) = ap (λ (l : List Bool). true ∷ l) (set_all n k)

stands : (c : Call) (r : StationResult) (s : StationNoting) → Stands s → Stands (station_noted c r s)
unfolding station_noted
stands c r s h = record {
  fits = by-if (λ (l : List Bool). l ≡ replicate 8 true) (taken_by r) _ _
      (λ e. by-if (λ (l : List Bool). l ≡ replicate 8 true) (eqb (file_code c) 0) _ _ (λ z. ap (λ (l : List Bool). set l (file_place c) true) h.fits ∙ set_all 8 (file_place c)) (λ z. refl))
      (λ e. h.fits);
  places = by-if (λ (l : List Row). length l ≡ 8) (taken_by r) _ _ (λ e. each-many _ 0 s.gone ∙ h.places) (λ e. h.places);
}

-- ---- a queue that has a book

booked-facts : (j : ℕ) (b : Book) (s : Station) → Booked j b s → Facts s
booked-facts j b s r = let w = booked-is-reached j b s r in facts s (reached-station-sound w.0 s w.1)

-- it is one of the eight
booked-low : (j : ℕ) (b : Book) (s : Station) → Booked j b s → j < 8
booked-low j b s r = let a = books-are-accounts j b s r in kept_low j a.0 s (booked-facts j b s r) a.1

held-booked : (j : ℕ) (b : Book) (s : LentStation) → s.fits ≡ replicate 8 true → Booked j b s.station → (x : StationSlot) → slot_of j s.station ≡ some x → holds_at j s ≡ held_blocks x.dest
unfolding place_held account_of
held-booked j b s f r x q =
    ap₂ place_held (ap (λ (l : List Bool). get_or l j false) f ∙ get_or-replicate 8 j true false (booked-low j b s.station r)) q
    ∙ if-true _ [] (slot-sound j s.station x (booked-facts j b s.station r) q).0
    ∙ if-true _ [] (ap is_queue (booked-holds-given j b s.station r x q).0)

keeps : (j : ℕ) (s : StationNoting) (b : Book) → Stands s → Booked j b s.lent.station → get_or s.gone j [] ≡ gone_row (gone_to (map left_block b.gone)) → KeepsBook j s b
keeps j s b h r g = record { book = r; fits = h.fits; held = held-booked j b s.lent h.fits r; places = h.places; gone = g }

-- ---- the counts

module _ (j : ℕ) (c : Call) (r : StationResult) (s : StationNoting) (t : taken_by r ≡ true) (low : j < length s.gone) where
  gone_at : get_or (station_noted c r s).gone j [] ≡ gone_row (gone_after (anew_at j c) (left_at j c r s.lent) (gone_by_words (get_or s.gone j [])))
  unfolding station_noted
  gone_at = ap (λ (l : List Row). get_or l j []) (if-true _ _ t) ∙ each_at _ 0 j s.gone low ∙ ap (λ (i : ℕ). gone_row (gone_after (anew_at i c) (left_at i c r s.lent) (gone_by_words (get_or s.gone j [])))) (add-zero j)

  open_gone : opens_place j (as_station_call c) ≡ true → get_or (station_noted c r s).gone j [] ≡ gone_row (gone_to [])
  unfolding all_gone
  open_gone o = gone_at ∙ ap₂ (λ (a : Bool) (bs : List Block). gone_row (gone_after a bs (gone_by_words (get_or s.gone j [])))) anew (none_left j c r s.lent (open-rests c r (and_left (eqb (file_code c) 0) _ o)))
    where
      anew : anew_at j c ≡ true
      anew = ap (λ (v : Bool). eqb (file_code c) 16 || v) o ∙ by-test (eqb (file_code c) 16) (λ e. rw e) (λ e. rw e)

  more-gone : eqb (file_code c) 16 ≡ false → opens_place j (as_station_call c) ≡ false → (l : List Block) → get_or s.gone j [] ≡ gone_row (gone_to l) → get_or (station_noted c r s).gone j [] ≡ gone_row (gone_to (l ++ left_at j c r s.lent))
  more-gone e o l g =
      gone_at
      ∙ ap gone_row (counted (anew_at j c) (left_at j c r s.lent) l (gone_by_words (get_or s.gone j [])) (ap gone_by_words g))
      ∙ ap (λ (v : Bool). gone_row (gone_to ((whether v then [] else l) ++ left_at j c r s.lent))) (ap₂ ◌||◌ e o)

-- ---- a call

module _ (j : ℕ) (c : Call) (s : StationNoting) (b : Book) (k : KeepsBook j s b) (n : starts_station c ≡ false) where
  abbrev u : Station
  u = s.lent.station

  abbrev r : StationResult
  r = got c s.lent

  abbrev q : StationResult
  q = made c s.lent

  abbrev next : Book
  next = book_next j (as_station_call c) u b

  same : Alike c s.lent
  same = alike c s.lent k.fits n

  next-booked : (not (opens_place j (as_station_call c)) || is_queue (kind_of (at 0 c.words))) ≡ true → Booked j next q.station
  next-booked p = books-along j b u (as_station_call c ∷ []) k.book (and_both _ true p refl)

  module _ (o : opens_place j (as_station_call c) ≡ false) where
    abbrev after : Book
    after = book_after j (file_place c) (file_code c) c.words u b

    not-here : file_code c ≡ 0 → file_place c ≡ j → ⊥
    not-here e d = true≢false (sym (and_both (eqb (file_code c) 0) _ (eq-eqb (file_code c) 0 e) (eq-eqb (file_place c) j d)) ∙ o)

    still : Booked j next q.station
    still = next-booked (ap (λ (v : Bool). not v || is_queue (kind_of (at 0 c.words))) o)

    rests : is_work c r ≡ false → (v : Book) → v ≡ b → map left_block v.gone ≡ map left_block b.gone ++ left_at j c r s.lent
    rests e v p = ap (λ (d : Book). map left_block d.gone) p ∙ sym (append-nil (map left_block b.gone)) ∙ ap (λ (l : List Block). map left_block b.gone ++ l) (sym (none_left j c r s.lent e))

    -- an open of another destination
    open-tells : eqb (file_code c) 0 ≡ true → map left_block after.gone ≡ map left_block b.gone ++ left_at j c r s.lent
    open-tells z = rests (open-rests c r z) after (ap (λ (m : ℕ). book_after j (file_place c) m c.words u b) (eqb-true (file_code c) 0 z) ∙ open-gets j (file_place c) c.words u b (slot_of (file_place c) u))

    work-tells : taken_by r ≡ true → q.refusal ≡ 0 → eqb (file_code c) 0 ≡ false → map left_block after.gone ≡ map left_block b.gone ++ left_at j c r s.lent
    unfolding left_at slot_gone
    work-tells t h z =
        let x = books-are-accounts j b u k.book in
        let y = books-are-accounts j next q.station still in
        let w : is_work c r ≡ true = and_both (taken_by r) _ t (and_both (not (eqb (file_code c) 0)) _ (ap not z) (ap not (same.coded t))) in
        books-by-one-look station_run_lengths (file_place c) (file_code c) c.words u j b k.book h not-here x.0 y.0 x.1 y.1
        ∙ ap (λ (l : List Block). map left_block b.gone ++ l)
        (sym (if-true _ [] w
        ∙ ap₂ (λ (bs : List Block) (d : Option StationSlot). slot_gone (file_code c) (words_got c s.lent) bs (blocks_came j (file_place c) (file_code c) c.words u) d) (k.held x.0 x.1) (ap (slot_of j) same.station ∙ y.1)))

    tells : map left_block next.gone ≡ map left_block b.gone ++ left_at j c r s.lent
    tells = by-test (taken_by q)
        (λ t. ap (λ (d : Book). map left_block d.gone) (if-true _ b t ∙ if-false _ _ o) ∙ by-test (eqb (file_code c) 0) open-tells (work-tells (same.taken ∙ t) (eqb-true _ 0 t)))
        (λ t. rests (refused-rests c r (same.taken ∙ t)) next (if-false _ b t))

  next-keeps : (not (opens_place j (as_station_call c)) || is_queue (kind_of (at 0 c.words))) ≡ true → KeepsBook j (station_noted c r s) next
  unfolding station_noted
  next-keeps p = keeps j (station_noted c r s) next (stands c r s (record { fits = k.fits; places = k.places })) (subst⁻¹ (Booked j next) same.station (next-booked p)) (by-test (taken_by r) counts rests-so)
    where
      low : j < length s.gone
      low = omega (arith, booked-low j b u k.book, k.places)

      counts : taken_by r ≡ true → get_or (station_noted c r s).gone j [] ≡ gone_row (gone_to (map left_block next.gone))
      counts t = by-test (opens_place j (as_station_call c))
          (λ o. open_gone j c r s t low o ∙ ap (λ (d : Book). gone_row (gone_to (map left_block d.gone))) (sym (if-true _ b (sym same.taken ∙ t) ∙ if-true _ _ o)))
          (λ o. more-gone j c r s t low (same.coded t) o (map left_block b.gone) k.gone ∙ ap (λ (l : List Block). gone_row (gone_to l)) (sym (tells o)))

      rests-so : taken_by r ≡ false → get_or (station_noted c r s).gone j [] ≡ gone_row (gone_to (map left_block next.gone))
      rests-so t = ap (λ (l : List Row). get_or l j []) (if-false _ _ t) ∙ k.gone ∙ ap (λ (d : Book). gone_row (gone_to (map left_block d.gone))) (sym (if-false _ b (sym same.taken ∙ t)))

pub call-tells-book : CallTellsBook
call-tells-book j c s b k n o = tells j c s b k n o

-- ---- calls, one after another

not-true : (v : Bool) → not v ≡ true → v ≡ false
not-true true e = sym e
not-true false e = refl

pub calls-keep-station-books : CallsKeepStationBooks
unfolding each_call station_report_call station_noted
calls-keep-station-books j [] index s b k n p = k
calls-keep-station-books j (c ∷ cs) index s b k n p =
    let e = not-true (starts_station c) (and_left (not (starts_station c)) _ n) in
    let r = got c s.lent in
    subst (λ (v : Station). KeepsBook j (each_call (station_report_call station_run_lengths) cs (more index) (station_noted c r s)).lent (book_along j (map as_station_call cs) v (book_next j (as_station_call c) s.lent.station b)))
    (alike c s.lent k.fits e).station
    (calls-keep-station-books j cs (more index) (station_noted c r s) (book_next j (as_station_call c) s.lent.station b)
    (next-keeps j c s b k e (and_left _ _ p)) (and_right (not (starts_station c)) _ n) (and_right (not (opens_place j (as_station_call c)) || is_queue (kind_of (at 0 c.words))) _ p))

-- ---- a station that was started

abbrev Started : StationNoting → Type 0
Started s = (cleared : ℕ → Bool) × ReachedStation cleared s.lent.station

module _ (c : Call) (s : StationNoting) where
  start-made : starts_station c ≡ true → got c s.lent ≡ station_start station_run_lengths s.lent.station
  unfolding file_call start_on station_short
  start-made h =
      let v = and_right (eqb (file_code c) 16) _ h in
      if-true _ _ (and_left (eqb (file_code c) 16) _ h) ∙ if-false _ _ (ap (ltb 7) (eqb-true (file_place c) 0 (and_left (eqb (file_place c) 0) _ v))) ∙ if-true _ _ v

  start-starts : starts_station c ≡ true → Started (station_noted c (got c s.lent) s)
  unfolding station_noted station_start station_short
  start-starts h = subst⁻¹ (λ (v : StationResult). (cleared : ℕ → Bool) × ReachedStation cleared v.station) (start-made h) (λ j. false, starting station_run_lengths s.lent.station refl)

  call-reached : Stands s → Started s → Started (station_noted c (got c s.lent) s)
  unfolding station_noted
  call-reached h w = by-test (starts_station c) start-starts
      (λ n. subst⁻¹ (λ (v : Station). (cleared : ℕ → Bool) × ReachedStation cleared v) (alike c s.lent h.fits n).station
      (by-test (taken_by (made c s.lent))
      (λ t. (cleared_by (file_place c) (file_code c) w.0, going station_run_lengths (file_place c) (file_code c) c.words w.1 (eqb-true _ 0 t)))
      (λ t. subst⁻¹ (λ (v : Station). (cleared : ℕ → Bool) × ReachedStation cleared v) (made-refused c s.lent t).1 w)))

abbrev after_calls : List Call → ℕ → StationNoting → StationNoting
after_calls calls index s = (each_call (station_report_call station_run_lengths) calls index s).lent

each_stands : (calls : List Call) (index : ℕ) (s : StationNoting) → Stands s → Stands (after_calls calls index s)
unfolding each_call station_report_call
each_stands [] index s h = h
each_stands (c ∷ cs) index s h = each_stands cs (more index) (station_noted c (got c s.lent) s) (stands c (got c s.lent) s h)

each-reached : (calls : List Call) (index : ℕ) (s : StationNoting) → Stands s → Started s → Started (after_calls calls index s)
unfolding each_call station_report_call
each-reached [] index s h w = w
each-reached (c ∷ cs) index s h w = each-reached cs (more index) (station_noted c (got c s.lent) s) (stands c (got c s.lent) s h) (call-reached c s h w)

-- an accepted start is among the calls
start-reached : (calls : List Call) (index : ℕ) (s : StationNoting) → Stands s → is_some (find starts_station calls) ≡ true → Started (after_calls calls index s)
unfolding each_call station_report_call
start-reached [] index s h w = absurd (true≢false (sym w))
start-reached (c ∷ cs) index s h w =
    let s' = station_noted c (got c s.lent) s in
    let h' = stands c (got c s.lent) s h in
    by-test (starts_station c)
    (λ t. each-reached cs (more index) s' h' (start-starts c s t))
    (λ t. start-reached cs (more index) s' h' (sym (ap is_some (if-false _ _ t)) ∙ w))

-- ---- a file

zero-stands : Stands zero_notes
unfolding zero_notes zero_station
zero-stands = record { fits = refl; places = refl }

-- the open of a queue
open-keeps : (c : Call) (s : StationNoting) → Stands s → Started s → file_code c ≡ 0 → kind_of (at 0 c.words) ≡ queue → (got c s.lent).refusal ≡ 0 → KeepsBook (file_place c) (station_noted c (got c s.lent) s) empty_book
unfolding station_noted
open-keeps c s h w z kind a =
    let j = file_place c in
    let u = s.lent.station in
    let e = same-call c s.lent h.fits (ap (λ (m : ℕ). eqb m 16) z) in
    let r : Booked (file_place c) empty_book (made c s.lent).station =
    subst⁻¹ (λ (m : ℕ). (station_step station_run_lengths (file_place c) m c.words s.lent.station).refusal ≡ 0 → Booked (file_place c) empty_book (station_step station_run_lengths (file_place c) m c.words s.lent.station).station) z
    (λ g. opens station_run_lengths c.words w.1 g kind) (ap (λ (v : StationResult). v.refusal) (sym e) ∙ a) in
    keeps j (station_noted c (got c s.lent) s) empty_book (stands c (got c s.lent) s h) (subst⁻¹ (λ (v : StationResult). Booked (file_place c) empty_book v.station) e r)
    (open_gone j c (got c s.lent) s (eq-eqb _ 0 a) (omega (arith, booked-low j empty_book (made c s.lent).station r, h.places)) (and_both (eqb (file_code c) 0) _ (eq-eqb (file_code c) 0 z) (eq-eqb j j refl)))

pub file-keeps-station-books : FileKeepsStationBooks
unfolding each_call station_report_call station_noted
file-keeps-station-books bytes before after c e w z kind a n p =
    let j = file_place c in
    let s = station_kept_after before in
    let r = got c s.lent in
    let b = book_along j (map as_station_call after) r.station empty_book in
    let one = station_report_call station_run_lengths in
    let at-end : station_kept_at_end bytes ≡ after_calls (c ∷ after) (each_call (station_report_call station_run_lengths) before 0 zero_notes).index (station_kept_after before) =
    blocks-are-calls one (cut_blocks bytes) 0 (record { index = 0; lent = zero_notes }) ∙ ap (λ (l : List Call). after_calls l 0 zero_notes) e ∙ each-joined one before (c ∷ after) 0 zero_notes in
    let k = subst⁻¹ (λ (m : StationNoting). KeepsBook j m b) at-end
    (calls-keep-station-books j after (more (each_call one before 0 zero_notes).index) (station_noted c r s) empty_book (open-keeps c s (each_stands before 0 zero_notes zero-stands) (start-reached before 0 zero_notes zero-stands w) z kind a) n p) in
    (k, books-are-accounts j b (station_kept_at_end bytes).lent.station k.book)
