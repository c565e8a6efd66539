-- What left a place of a sound station: of what it held before a call and of what came, what its buffers do not hold after it. Assumes nothing.
use Prim.Native.Nat.{ℕ, zero, suc, ◌+◌, ◌≤◌, ◌<◌}
use native.Mathlib.Omega.{arith}
use mathlib.Core.Path.{◌≡◌, refl, sym, ap, ap₂, ◌∙◌, subst⁻¹}
use mathlib.Core.Bool.{Bool, true, false, not, ◌&&◌, true≢false}
use mathlib.Core.List.{List, [], ◌∷◌, ◌++◌, map, map-append, map-map}
use mathlib.Core.Option.{Option, none, some}
use borrow.Author.Tests.{le-ltb, not-true}
use lib.Dec.{eqb}
use lib.ListN.{length, take, length-take}
use lib.Seq.{sets}
use Rattle.definition.specs.Base.{whether◌then◌else◌, keep}
use Rattle.definition.specs.Words.{at}
use Rattle.definition.specs.Layout.{Row}
use Rattle.definition.proofs.Tests.{if-true, if-false, and_left, and_right}
use Rattle.definition.proofs.Reorder.{keep_append}
use Rattle.table.proofs.Segments.{keep-map}
use Rattle.fates.specs.Blocks.{Block, account_of, went_as, comes}
use Rattle.definition_station.specs.Types.{StationSlot, slot_of}
use Rattle.definition_station.specs.Station.{station_short, StationResult}
use Rattle.definition_station.specs.Layout.{StationBuffers, station_view, sound_station, station_lengths_of}
use Rattle.definition_stationfates.specs.Told.{told_row, is_at, told_letters}
use Rattle.definition_stationblocks.specs.StationBlocks.{blocks_gone, blocks_came}
use Rattle.calls.specs.declared.Call.{Call}
use Rattle.report.specs.Report.{gone_from, leavers_of, leavers_put}
use Rattle.report.proofs.Going.{with-room}
use Rattle.report.proofs.Accounting.{leavers-gone}
use Rattle.reportlines.specs.ReportLines.{gone_after}
use Rattle.stationreportlines.specs.StationReportLines.{blocks_text_on}
use Rattle.stationcalls.specs.declared.ToldOutcome.{ToldOutcome}
use Rattle.stationcalls.specs.Parts.{lent_all, Within}
use Rattle.stationcalls.specs.Tells.{told_rows}
use Rattle.stationrun.specs.StationRuns.{LentStation, station_by, file_code, file_place, taken_by}
use Rattle.stationreport.specs.StationReporting.{places_text, each_place, slot_is_queue, gone_row, gone_by_words, is_work, words_got, told_in, slot_gone, left_at, anew_at, counts_after, left_text}
use Rattle.stationreport.specs.Gathering.{ListedFirst, part_blocks, HeldAll, stored_row, came_to, part_gone, left_from, gone_row_by, counts_by, CallAndTold}
use Rattle.stationreport.proofs.Shown.{none-listed, listed-long}
use Rattle.stationreport.proofs.Gathered.{slot-blocks, part-holds, listed_then}

-- ---- by what its buffers hold

leavers-append : (code : ℕ) (ws : List ℕ) (now bs came : List Block) → leavers_of code ws now (bs ++ came) ≡ leavers_of code ws now bs ++ leavers_of code ws now came
unfolding leavers_of
leavers-append code ws now bs came = ap (map (went_as code ws)) (keep_append (gone_from now) bs came) ∙ map-append (went_as code ws) (keep (gone_from now) bs) (keep (gone_from now) came)

module _ (j code : ℕ) (ws : List ℕ) (bs came : List Block) where
  -- where there is no queue there is no account
  none-gone : (o : Option StationSlot) → slot_is_queue o ≡ false → slot_gone code ws bs came o ≡ []
  unfolding slot_gone blocks_gone
  none-gone none q = refl
  none-gone (some x) q = if-false _ [] q

  module _ (b : StationBuffers) (n : ℕ) (long : station_short (station_lengths_of b n) ≡ false) (y : sound_station b ≡ true) (h : j < 8) where
    queue-gone : (o : Option StationSlot) → slot_of j (station_view b) ≡ o → slot_is_queue o ≡ true → slot_gone code ws bs came o ≡ leavers_of code ws (part_blocks b j) (bs ++ came)
    unfolding slot_gone blocks_gone account_of
    queue-gone none e q = absurd (true≢false (sym q))
    queue-gone (some x) e q =
        if-true _ [] q
        ∙ sym (leavers-gone code ws x.dest (bs ++ came))
        ∙ ap (λ (l : List Block). leavers_of code ws l (bs ++ came)) (sym (slot-blocks b n long y j h x e ∙ if-true _ [] q))

    both-gone : slot_is_queue (slot_of j (station_view b)) ≡ true → part_gone j code ws b bs came ≡ leavers_of code ws (part_blocks b j) bs ++ leavers_of code ws (part_blocks b j) came
    unfolding part_gone
    both-gone q = queue-gone (slot_of j (station_view b)) refl q ∙ leavers-append code ws (part_blocks b j) bs came

-- ---- as the code lists it

module _ (heads : List ℕ) (subs rows : List Row) (own : List ℕ) (j : ℕ) (before : List Block) (n : ℕ) (came : List Block) (m code : ℕ) (ws : List ℕ) (left : List Block) where
  abbrev b : StationBuffers
  b = lent_all heads subs rows own

  pub none_left : slot_is_queue (slot_of j (station_view b)) ≡ false → ListedFirst (part_gone j code ws b (take n before) (take m came)) (n + m) left 0 left
  unfolding part_gone
  none_left q = none-listed (none-gone j code ws (take n before) (take m came) (slot_of j (station_view b)) q)

  module _ (w : Within j heads subs rows) (o : 20 ≤ length own) (y : sound_station b ≡ true) (room : n + m ≤ length left) where
    long : station_short (station_lengths_of b 4872) ≡ false
    unfolding station_short
    long = rw (le-ltb (length heads) 66776 w.heads-long, le-ltb (length subs) 256 w.subs-long, le-ltb (length rows) 4096 w.rows_long, le-ltb (length own) 20 o)

    -- what `leavers` puts and answers
    abbrev Leaves : List Block → List Block → ℕ → List Block → ℕ → ℕ → List Block → Type 0
    Leaves now bs count l start r l' =
        let v = leavers_put code ws now (take count bs) start (length l) in (r ≡ start + length v) × ((r ≤ start + count) × (l' ≡ sets l start v))

    leaves-next : (now bs : List Block) (count more : ℕ) {p l l' : List Block} {most start r : ℕ} → ListedFirst p most left start l → most + count ≤ more → more ≤ length left → Leaves now bs count l start r l'
        → ListedFirst (p ++ leavers_of code ws now (take count bs)) more left r l'
    leaves-next now bs count more {p} {l} {l'} {most} {start} {r} e fits roomy says =
        let as_long : length l ≡ length left = listed-long e (omega (arith, fits, roomy)) in
        let is = with-room code ws now (take count bs) start (length l) (omega (arith, as_long, e.few, fits, roomy, length-take count bs)) in
        listed_then e (leavers_of code ws now (take count bs)) (says.0 ∙ ap (λ (v : List Block). start + length v) is) (omega (arith, says.1.0, e.few, fits)) roomy (says.1.1 ∙ ap (sets l start) is)

    pub some_left : slot_is_queue (slot_of j (station_view b)) ≡ true → (held : List Block) (k : ℕ) → take k held ≡ part_blocks b j → {next r : ℕ} {left₁ left₂ : List Block}
        → Leaves (take k held) before n left 0 next left₁ → Leaves (take k held) came m left₁ next r left₂ → ListedFirst (part_gone j code ws b (take n before) (take m came)) (n + m) left r left₂
    some_left q held k is {next} {r} {left₁} {left₂} first second =
        let now = take k held in
        let one : ListedFirst (leavers_of code ws now (take n before)) n left next left₁ = leaves-next now before n n {p = []} {most = 0} (none-listed refl) (omega arith) (omega (arith, room)) first in
        let two = leaves-next now came m (n + m) one (omega arith) room second in
        subst⁻¹ (λ (l : List Block). ListedFirst l (n + m) left r left₂)
        (both-gone j code ws (take n before) (take m came) b 4872 long y w.is-place q ∙ ap (λ (l : List Block). leavers_of code ws l (take n before) ++ leavers_of code ws l (take m came)) (sym is))
        two

-- ---- with what was gathered before a call

module _ (j : ℕ) (c : Call) (s : LentStation) where
  -- the rows of the dead letters name what came
  came-are : (told : List Row) → told ≡ told_rows (file_place c) (file_code c) c.words s.station → came_to j (file_place c) (file_code c) (words_got c s) told ≡ blocks_came j (file_place c) (file_code c) c.words s.station
  unfolding came_to
  came-are told e =
      let letters = told_letters (file_place c) (file_code c) c.words s.station in
      ap (λ (l : List Block). (whether eqb (file_place c) j then comes (file_code c) (words_got c s) else []) ++ l)
      (ap (λ (l : List Row). map stored_row (keep (λ t. eqb (at 2 t) j) l)) e
      ∙ ap (map stored_row) (keep-map told_row (λ t. eqb (at 2 t) j) letters)
      ∙ map-map stored_row told_row (keep (is_at j) letters))

-- places whose lines and rows are made alike
places-alike : (f g : ℕ → List ℕ) (j n : ℕ) → ((i : ℕ) → i < j + n → f i ≡ g i) → places_text f j n ≡ places_text g j n
unfolding places_text
places-alike f g j zero h = refl
places-alike f g j (suc n) h = ap₂ (λ (t u : List ℕ). t ++ u) (h j (omega arith)) (places-alike f g (suc j) n (λ i e. h i (omega (arith, e))))

each-alike : (f g : ℕ → Row → Row) (j : ℕ) (rs : List Row) → ((i : ℕ) (r : Row) → i < j + length rs → f i r ≡ g i r) → each_place f j rs ≡ each_place g j rs
unfolding each_place
each-alike f g j [] h = refl
each-alike f g j (r ∷ rs) h = ap₂ (λ (x : Row) (xs : List Row). x ∷ xs) (h j r (omega arith)) (each-alike f g (suc j) rs (λ i x e. h i x (omega (arith, e))))

-- of each place, what left it by the code is what left it in the call
module _ {q : StationResult} {c : Call} {b b' : StationBuffers} {events events' told' : List Row} {r : ToldOutcome} (called : CallAndTold q c b b' events events' told' r) (lists : List Block) (counts : List ℕ) (gathered : HeldAll b lists counts)
    (n : ℕ) (long : station_short (station_lengths_of b n) ≡ false) (work : is_work c q ≡ true) where
  pub left-from : (j : ℕ) → j < 8 → left_from b' lists counts (take r.letters told') (file_place c) (file_code c) (words_got c (station_by b events)) j ≡ left_at j c q (station_by b events)
  unfolding left_at part_gone told_in
  left-from j h =
      let s = station_by b events in
      let held = gathered.blocks j h ∙ part-holds b n long (called.found-sound work) j h events in
      let came = came-are j c s (take r.letters told') (called.told ∙ if-true _ [] work) in
      let slot = ap (λ (u : LentStation). slot_of j u.station) called.called.shows in
      (λ i. slot_gone (file_code c) (words_got c s) (held i) (came i) (slot i)) ∙ sym (if-true _ [] work)

  -- so are the lines of all places, and the counts after the call
  abbrev left : ℕ → List Block
  left = left_from b' lists counts (take r.letters told') (file_place c) (file_code c) (words_got c (station_by b events))

  pub left-text : left_text left ≡ left_text (λ j. left_at j c q (station_by b events))
  left-text = places-alike (λ j. blocks_text_on j (left j)) (λ j. blocks_text_on j (left_at j c q (station_by b events))) 0 8 (λ j h. ap (blocks_text_on j) (left-from j (omega (arith, h))))

  none-anew : (j : ℕ) → anew_at j c ≡ false
  none-anew j =
      let codes = and_right (taken_by q) (not (eqb (file_code c) 0) && not (eqb (file_code c) 16)) work in
      rw (not-true (eqb (file_code c) 16) (and_right (not (eqb (file_code c) 0)) (not (eqb (file_code c) 16)) codes), not-true (eqb (file_code c) 0) (and_left (not (eqb (file_code c) 0)) (not (eqb (file_code c) 16)) codes))

  pub left-counts : (gone : List Row) → length gone ≡ 8 → counts_by left 0 gone ≡ counts_after c q (station_by b events) 0 gone
  left-counts gone e = each-alike (gone_row_by left) (λ j g. gone_row (gone_after (anew_at j c) (left_at j c q (station_by b events)) (gone_by_words g))) 0 gone
      (λ j g h. ap₂ (λ (anew : Bool) (bs : List Block). gone_row (gone_after anew bs (gone_by_words g))) (sym (none-anew j)) (left-from j (omega (arith, h, e))))
