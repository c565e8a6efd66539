-- What the buffers of the places hold, gathered one place after another; of a sound station it is what the places hold. Assumes nothing.
use Prim.Native.Nat.{ℕ, ◌+◌, ◌*◌, ◌-◌, ◌≤◌, ◌<◌}
use native.Mathlib.Nat.{add-zero, zero-add}
use native.Mathlib.Omega.{arith}
use mathlib.Core.Path.{◌≡◌, sym, ap, ap₂, ◌∙◌, subst⁻¹}
use mathlib.Core.Bool.{true, false, true≢false}
use mathlib.Core.List.{List, [], ◌++◌}
use mathlib.Core.Option.{some}
use borrow.Author.Tests.{eqb-true, eqb-false, leb-true, le-ltb, not-true}
use lib.Dec.{eqb}
use lib.ListN.{length, take, drop, set, length-append}
use lib.Seq.{sets, slice, get_or-set_same, get_or-set_other}
use Rattle.definition.specs.Calls.{Lengths, state_short}
use Rattle.definition.specs.Words.{at}
use Rattle.definition.specs.Layout.{Row, Buffers, flag, is_mark, lengths_of, lent}
use Rattle.definition.proofs.Tests.{by-test, if-true, if-false, and_left}
use Rattle.fates.specs.Blocks.{Block, account_of}
use Rattle.definition_station.specs.Types.{StationSlot, slot_of}
use Rattle.definition_station.specs.Station.{station_short}
use Rattle.definition_station.specs.Layout.{StationBuffers, part, is_open, part_formed, station_formed, station_view, sound_station, station_lengths_of}
use Rattle.definition_station.proofs.Buffers.{all-at, opened-at, parts-are-sound}
use Rattle.report.specs.Report.{list_with, blocks_in}
use Rattle.report.proofs.Holding.{sound-blocks}
use Rattle.report.proofs.Accounting.{put_first}
use Rattle.report.proofs.Filling.{sets-append}
use Rattle.stationcalls.specs.Parts.{lent_all, Within}
use Rattle.stationcalls.proofs.Back.{lent_is, back-here, back-length}
use Rattle.stationcalls.proofs.Placed.{place-fits, part-long, other_place, put, at_part}
use Rattle.stationcalls.proofs.Viewed.{shown_slot, open-at}
use Rattle.stationrun.specs.StationRuns.{station_by}
use Rattle.stationreport.specs.StationReporting.{holds_at}
use Rattle.stationreport.specs.Gathering.{ListedFirst, part_blocks, HeldAll}
use Rattle.stationreport.proofs.Shown.{holds-none, holds-sound, none-listed, listed-are, listed-long}

-- ---- a place

-- any room that is enough is as good
roomy-blocks : (p : Buffers) (room : ℕ) → 512 ≤ room → blocks_in p room ≡ blocks_in p 512
unfolding blocks_in
roomy-blocks p room h = rw (le-ltb room 512 h)

module _ (k : ℕ) (b : StationBuffers) where
  shut-blocks : is_open k b ≡ false → part_blocks b k ≡ []
  unfolding part_blocks
  shut-blocks o = if-false _ [] o

  open_blocks : is_open k b ≡ true → part_blocks b k ≡ blocks_in (part k b) 512
  unfolding part_blocks
  open_blocks o = if-true _ [] o

module _ (k : ℕ) (heads : List ℕ) (subs rows : List Row) (own : List ℕ) (list : List Block) where
  abbrev b : StationBuffers
  b = lent_all heads subs rows own

  pub none-held : is_open k b ≡ false → ListedFirst (part_blocks b k) 512 list 0 list
  none-held o = none-listed (shut-blocks k b o)

  pub some-held : is_open k b ≡ true → Within k heads subs rows → 512 ≤ length list → (r : ℕ) (list' : List Block)
      → (let l = blocks_in (lent (take ((k * 8347 + 8347) - k * 8347) (drop (k * 8347) heads)) (take ((k * 32 + 32) - k * 32) (drop (k * 32) subs)) (take ((k * 512 + 512) - k * 512) (drop (k * 512) rows))) (length list) in
      (r ≡ length l) × ((r ≤ 512) × (list' ≡ list_with l list)))
      → ListedFirst (part_blocks b k) 512 list r list'
  some-held o w room r list' e =
      let says = at_part k heads subs rows w (λ (p : Buffers). (r ≡ length (blocks_in p (length list))) × ((r ≤ 512) × (list' ≡ list_with (blocks_in p (length list)) list))) e own in
      let is : blocks_in (part k b) (length list) ≡ part_blocks b k = roomy-blocks (part k b) (length list) room ∙ sym (open_blocks k b o) in
      record { count = says.0 ∙ ap length is; few = says.1.0; first = says.1.1 ∙ ap (λ (l : List Block). list_with l list) is }

-- ---- of a sound station

module _ (b : StationBuffers) (n : ℕ) (long : station_short (station_lengths_of b n) ≡ false) (y : sound_station b ≡ true) (k : ℕ) (h : k < 8) where
  mark-one : is_open k b ≡ true → at k b.own ≡ 1
  unfolding sound_station station_formed part_formed
  mark-one o =
      let formed : part_formed b k ≡ true = ap (part_formed b) (sym (add-zero k)) ∙ all-at (part_formed b) 0 8 k h (and_left (station_formed b) _ y) in
      omega (arith, leb-true (at k b.own) 1 (and_left (is_mark (at k b.own)) _ formed), eqb-false (at k b.own) 0 (not-true (eqb (at k b.own) 0) o))

  -- what its buffers hold is the account of the destination there
  pub slot-blocks : (x : StationSlot) → slot_of k (station_view b) ≡ some x → part_blocks b k ≡ account_of x.dest
  unfolding state_short
  slot-blocks x e =
      let p = parts-are-sound b n k x long y e in
      let whole : state_short (lengths_of (part k b) 0) ≡ false = ap (λ (l : Lengths). state_short l) p.2 in
      open_blocks k b (opened-at b k x e).1 ∙ sound-blocks (part k b) 512 (omega arith) whole p.0 ∙ ap account_of p.1

  -- and what it holds
  pub part-holds : (events : List Row) → part_blocks b k ≡ holds_at k (station_by b events)
  part-holds events = by-test (is_open k b)
      (λ o. let e = open-at b 0 k h o in slot-blocks (shown_slot b k) e ∙ sym (holds-sound b k events h (mark-one o) ∙ if-true _ [] (parts-are-sound b n k (shown_slot b k) long y e).0))
      (λ o. shut-blocks k b o ∙ sym (holds-none b k events h (λ e. true≢false (sym (ap flag e) ∙ o))))

-- ---- one place after another

next : (i k : ℕ) → i < k → i * 512 + 512 ≤ k * 512
next i k e = omega (arith, e)

-- the part of a place in a list with 512 places for each, as the code lends it
module _ (lists : List Block) (long : length lists ≡ 4096) (j : ℕ) (h : j < 8) where
  enough : 8 * 512 ≤ length lists
  enough = omega (arith, long)

  width : (j * 512 + 512) - j * 512 ≡ 512
  width = omega arith

  pub lent-long : length (take ((j * 512 + 512) - j * 512) (drop (j * 512) lists)) ≡ 512
  lent-long = ap (λ (w : ℕ). length (take w (drop (j * 512) lists))) width ∙ part-long 512 next lists enough j h

  pub lent-there : take ((j * 512 + 512) - j * 512) (drop (j * 512) lists) ≡ slice (j * 512) (j * 512 + 512) lists
  lent-there = ap (λ (w : ℕ). take w (drop (j * 512) lists)) width ∙ lent_is lists (j * 512) 512 (place-fits 512 next lists enough j h)

pub record GatheredTo (b : StationBuffers) (j : ℕ) (lists : List Block) (counts : List ℕ) : Type 0 where
  pub few : (i : ℕ) → i < j → at i counts ≤ 512
  pub blocks : (i : ℕ) → i < j → take (at i counts) (slice (i * 512) (i * 512 + 512) lists) ≡ part_blocks b i

module _ (b : StationBuffers) (lists : List Block) (counts : List ℕ) where
  pub none-gathered : GatheredTo b 0 lists counts
  none-gathered = record { few = λ i h. absurd (omega (arith, h)); blocks = λ i h. absurd (omega (arith, h)) }

  module _ (long : length lists ≡ 4096) (counts-long : length counts ≡ 8) (j : ℕ) where
    pub all-gathered : 8 ≤ j → GatheredTo b j lists counts → HeldAll b lists counts
    all-gathered h g = record {
      few-held = record { few = λ i e. g.few i (omega (arith, e, h)); lists_length = long; counts-length = counts-long };
      blocks = λ i e. g.blocks i (omega (arith, e, h));
    }

    module _ (h : j < 8) (g : GatheredTo b j lists counts) (n : ℕ) (later : List Block) (p : ListedFirst (part_blocks b j) 512 (take ((j * 512 + 512) - j * 512) (drop (j * 512) lists)) n later) where
      fits : j * 512 + 512 ≤ length lists
      fits = place-fits 512 next lists (enough lists long j h) j h

      later-long : length later ≡ 512
      later-long = listed-long p (omega (arith, lent-long lists long j h)) ∙ lent-long lists long j h

      each : (i : ℕ) → i < j + 1 → (at i (set counts j n) ≤ 512) × (take (at i (set counts j n)) (slice (i * 512) (i * 512 + 512) (put (j * 512) 512 lists later)) ≡ part_blocks b i)
      each i e = by-test (eqb i j)
          (λ t. let is : i ≡ j = eqb-true i j t in
          let many : at i (set counts j n) ≡ n = ap (λ (x : ℕ). at x (set counts j n)) is ∙ get_or-set_same counts j n 0 (omega (arith, h, counts-long)) in
          let here : slice (i * 512) (i * 512 + 512) (put (j * 512) 512 lists later) ≡ later = ap (λ (x : ℕ). slice (x * 512) (x * 512 + 512) (put (j * 512) 512 lists later)) is ∙ back-here lists (j * 512) 512 fits later later-long in
          (omega (arith, many, p.few), ap₂ (λ (x : ℕ) (l : List Block). take x l) many here ∙ listed-are p ∙ ap (part_blocks b) (sym is)))
          (λ t. let ne : i ≡ j → ⊥ = eqb-false i j t in
          let before : i < j = omega (arith, e, ne) in
          let many : at i (set counts j n) ≡ at i counts = get_or-set_other counts j i n 0 ne in
          let there = other_place 512 next lists (enough lists long j h) i j h (omega (arith, before, h)) ne later later-long in
          (omega (arith, many, g.few i before), ap₂ (λ (x : ℕ) (l : List Block). take x l) many there ∙ g.blocks i before))

      pub gathered_next : let lists' = put (j * 512) ((j * 512 + 512) - j * 512) lists later in (length lists' ≡ length lists) × GatheredTo b (j + 1) lists' (set counts j n)
      gathered_next =
          subst⁻¹ (λ (w : ℕ). let lists' = put (j * 512) w lists later in (length lists' ≡ length lists) × GatheredTo b (j + 1) lists' (set counts j n)) (width lists long j h)
          (back-length lists (j * 512) 512 fits later later-long, record { few = λ i e. (each i e).0; blocks = λ i e. (each i e).1 })

-- ---- some listed after others

pub listed_then : {p list list₁ list₂ : List Block} {most more k r : ℕ} → ListedFirst p most list k list₁ → (q : List Block) → r ≡ k + length q → r ≤ more → more ≤ length list → list₂ ≡ sets list₁ k q
    → ListedFirst (p ++ q) more list r list₂
listed_then {p} {list} {list₁} {list₂} {most} {more} {k} {r} e q many few room l =
    let both : r ≡ length (p ++ q) = omega (arith, many, e.count, length-append p q) in record {
      count = both;
      few = few;
      first = l
          ∙ ap₂ (λ (x : List Block) (i : ℕ). sets x i q) (e.first ∙ sym (put_first p list (omega (arith, e.count, many, few, room)))) (e.count ∙ sym (zero-add (length p)))
          ∙ sym (sets-append p q list 0)
          ∙ put_first (p ++ q) list (omega (arith, both, few, room));
    }
