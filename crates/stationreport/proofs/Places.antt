-- The lines of the places, one after another: of other queues at which letters were stored, and the last ones. Assumes nothing.
use Prim.Native.Nat.{ℕ, zero, suc, ◌+◌, ◌*◌, ◌-◌, ◌≤◌}
use native.Mathlib.Nat.{add-zero, zero-add}
use native.Mathlib.Numerals.{add-one}
use native.Mathlib.Omega.{arith}
use mathlib.Core.Path.{◌≡◌, refl, sym, ap, ap₂, ◌∙◌, subst, subst⁻¹}
use mathlib.Core.Bool.{Bool, true, false, not, ◌&&◌, ◌||◌}
use mathlib.Core.List.{List, [], ◌∷◌, ◌++◌, map, append_assoc, append-nil}
use mathlib.Core.Option.{Option, none}
use borrow.Author.Tests.{eq-eqb, ne_eqb}
use lib.Dec.{eqb}
use lib.ListN.{length, get_or, take, drop}
use Rattle.std.specs.List.{list_any}
use Rattle.words.proofs.Tests.{eqb_comm}
use Rattle.definition.specs.Base.{member}
use Rattle.definition.specs.Types.{Stats}
use Rattle.definition.specs.Words as Words
use Rattle.definition.specs.Layout.{Row, stats_at}
use Rattle.definition.proofs.Tests.{if-true, if-false}
use Rattle.fates.specs.Blocks.{Block}
use Rattle.definition_station.specs.Types.{StationSlot, slot_of}
use Rattle.definition_station.specs.Layout.{StationBuffers, is_open, slot_at}
use Rattle.callfile.specs.Placed.{Puts, PutLine}
use Rattle.callfile.proofs.Parts.{then, line-puts, none-put}
use Rattle.reportlines.specs.declared.Ways.{Ways}
use Rattle.reportlines.specs.declared.Gone.{Gone}
use Rattle.reporting.specs.Reporting.{ways_of}
use Rattle.stationlines.specs.StationLines.{counted_line}
use Rattle.stationreportlines.specs.StationReportLines.{ways_line, block_line_on, blocks_text_on, totals_line_on}
use Rattle.stationlines.proofs.Rows.{rows_few}
use Rattle.stationreportlines.proofs.Rows.{ways-length, totals-on-length, block-on-length}
use Rattle.stationcalls.specs.Parts.{lent_all, Within}
use Rattle.stationrun.specs.StationRuns.{LentStation, station_by}
use Rattle.stationrun.specs.StationFiles.{slot_line}
use Rattle.stationrun.proofs.Ends.{open-line}
use Rattle.stationreport.specs.StationReporting.{places_text, holds_at, slot_is_queue, gone_by_words, other_line, noted_by}
use Rattle.stationreport.specs.Gathering.{ListedFirst}
use Rattle.stationreport.specs.StationReportFiles.{slot_tail, place_tail}
use Rattle.stationreport.proofs.Shown.{slot-here, listed-are}

module _ (line : ℕ → List ℕ) where
  -- one place more, from place j on
  pub places-last : (j n : ℕ) → places_text line j (suc n) ≡ places_text line j n ++ line (j + n)
  unfolding places_text
  places-last j zero = append-nil (line j) ∙ ap line (sym (add-zero j))
  places-last j (suc n) =
      let e : suc j + n ≡ j + suc n = omega arith in
      ap (λ (t : List ℕ). line j ++ t) (places-last (suc j) n ∙ ap (λ (m : ℕ). places_text line (suc j) n ++ line m) e)
      ∙ sym (append_assoc (line j) (places_text line (suc j) n) (line (j + suc n)))

  module _ {from : ℕ} {out₀ : List ℕ} where
    pub no-places : Puts (places_text line 0 0) from out₀ from out₀
    unfolding places_text
    no-places = none-put from out₀

    pub next_place : (i : ℕ) {at r : ℕ} {out out' : List ℕ} → Puts (places_text line 0 i) from out₀ at out → Puts (line i) at out r out' → Puts (places_text line 0 (i + 1)) from out₀ r out'
    next_place i {at} {r} {out} {out'} p q =
        subst (λ (t : List ℕ). Puts t from out₀ r out') (sym (ap (places_text line 0) (add-one i) ∙ places-last 0 i ∙ ap (λ (m : ℕ). places_text line 0 i ++ line m) (zero-add i)))
        (then p q)

-- ---- a number among those of a list

pub any-member : {A : Type 0} (f : A → ℕ) (k : ℕ) (xs : List A) → list_any (λ x. eqb (f x) k) xs ≡ member k (map f xs)
any-member f k [] = refl
any-member f k (x ∷ xs) = ap₂ ◌||◌ (eqb_comm (f x) k) (any-member f k xs)

-- ---- another queue

module _ (k : ℕ) (told : List Row) (u : LentStation) (j from : ℕ) (out : List ℕ) where
  abbrev named : Bool
  named = member j (map (Words.at 2) told)

  abbrev queued : Bool
  queued = slot_is_queue (slot_of j u.station)

  abbrev Other : ℕ → List ℕ → Type 0
  Other r out' = Puts (other_line k told u j) from out r out' × (r ≤ from + 128)

  no_other : (not (eqb j k) && (named && queued)) ≡ false → Other from out
  no_other e = (subst⁻¹ (λ (t : List ℕ). Puts t from out from out) (if-false (ways_line j (ways_of (holds_at j u))) [] e) (none-put from out), omega arith)

  pub own-place : j ≡ k → Other from out
  own-place e = no_other (rw (eq-eqb j k e))

  module _ (ne : j ≡ k → ⊥) where
    pub not_named : named ≡ false → Other from out
    not_named e = no_other (rw (ne_eqb j k ne, e))

    module _ (yes : named ≡ true) where
      pub no-queue : queued ≡ false → Other from out
      no-queue e = no_other (rw (ne_eqb j k ne, yes, e))

      pub other-put : queued ≡ true → from + 256 ≤ length out → (w : Ways) → w ≡ ways_of (holds_at j u) → {r : ℕ} {out' : List ℕ} → PutLine 256 (ways_line j w) from out r out' → Other r out'
      other-put q room w e {r} {out'} p =
          let put : Puts (ways_line j w) from out r out' = line-puts room (omega (arith, ways-length j w)) p in
          let all : (not (eqb j k) && (named && queued)) ≡ true = rw (ne_eqb j k ne, yes, q) in
          (subst⁻¹ (λ (t : List ℕ). Puts t from out r out') (if-true (ways_line j (ways_of (holds_at j u))) [] all) (subst (λ (x : Ways). Puts (ways_line j x) from out r out') e put), omega (arith, put.next, ways-length j w))

-- ---- the last lines of a place

module _ (k : ℕ) (heads : List ℕ) (subs rows : List Row) (own : List ℕ) (gone : List Row) where
  abbrev b : StationBuffers
  b = lent_all heads subs rows own

  abbrev holds : List Block
  holds = holds_at k (station_by b [])

  abbrev counts : Gone
  counts = gone_by_words (get_or gone k [])

  module _ (within : Within k heads subs rows) (from : ℕ) (out : List ℕ) where
    abbrev Tail : ℕ → List ℕ → Type 0
    Tail r out' = Puts (place_tail (noted_by b [] gone) k) from out r out' × (r ≤ from + 65920)

    pub shut-tail : is_open k b ≡ false → Tail from out
    unfolding slot_tail slot_at
    shut-tail o = (subst⁻¹ (λ (x : Option StationSlot). Puts (slot_tail k holds counts x) from out from out) (slot-here b k within.is-place ∙ if-false _ none o) (none-put from out), omega arith)

    -- of an open one, its counters last
    open-tail : is_open k b ≡ true → place_tail (noted_by b [] gone) k ≡ blocks_text_on k holds ++ (totals_line_on k (ways_of holds) counts ++ slot_line k (slot_at b k))
    unfolding slot_tail slot_at
    open-tail o = ap (slot_tail k holds counts) (slot-here b k within.is-place) ∙ rw o

    module _ (o : is_open k b ≡ true) (room : from + 66304 ≤ length out) (list : List Block) {n : ℕ} {list' : List Block} (listed : ListedFirst holds 512 list n list')
        (w : Ways) (ways : w ≡ ways_of (take n list')) (g : Gone) (same : g ≡ counts) {a c r : ℕ} {out₁ out₂ out₃ : List ℕ}
        (p₁ : PutLine (128 + 128 * n) (blocks_text_on k (take n list')) from out a out₁)
        (p₂ : PutLine 384 (totals_line_on k w g) a out₁ c out₂)
        (s : Stats) (stats : s ≡ stats_at (take ((k * 8347 + 8347) - k * 8347) (drop (k * 8347) heads)))
        (p₃ : PutLine 256 (counted_line k s) c out₂ r out₃)
      where
        few : length (blocks_text_on k (take n list')) ≤ 128 * n
        few = rows_few (block_line_on k) (block-on-length k) n list'

        first : Puts (blocks_text_on k (take n list')) from out a out₁
        first = line-puts (omega (arith, room, listed.few)) (omega (arith, few)) p₁

        after_first : a ≤ from + 65536
        after_first = omega (arith, first.next, few, listed.few)

        second : Puts (totals_line_on k w g) a out₁ c out₂
        second = line-puts (omega (arith, room, after_first, first.same)) (omega (arith, totals-on-length k w g)) p₂

        after-second : c ≤ from + 65792
        after-second = omega (arith, after_first, second.next, totals-on-length k w g)

        third : Puts (slot_line k (slot_at b k)) c out₂ r out₃ × (r ≤ c + 128)
        third = open-line k heads subs rows own o within s stats (omega (arith, room, after-second, first.same, second.same)) p₃

        pub tail-put : Tail r out₃
        tail-put =
            let are : take n list' ≡ holds = listed-are listed in
            let texts : blocks_text_on k (take n list') ++ (totals_line_on k w g ++ slot_line k (slot_at b k)) ≡ place_tail (noted_by b [] gone) k =
            ap₂ (λ (bs : List Block) (x : Ways). blocks_text_on k bs ++ (totals_line_on k x g ++ slot_line k (slot_at b k))) are (ways ∙ ap ways_of are)
            ∙ ap (λ (x : Gone). blocks_text_on k holds ++ (totals_line_on k (ways_of holds) x ++ slot_line k (slot_at b k))) same
            ∙ sym (open-tail o) in
            (subst (λ (t : List ℕ). Puts t from out r out₃) texts (then first (then second third.0)), omega (arith, after-second, third.1))
