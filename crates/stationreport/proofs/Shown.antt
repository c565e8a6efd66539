-- What a place of a lent station holds, and whether it is a queue. Assumes nothing.
use Prim.Native.Nat.{ℕ, ◌+◌, ◌*◌, ◌-◌, ◌≤◌, ◌<◌}
use native.Mathlib.Nat.{add-zero}
use native.Mathlib.Omega.{arith}
use mathlib.Core.Path.{◌≡◌, refl, sym, ap, ap₂, ◌∙◌}
use mathlib.Core.Bool.{Bool, true, false, ◌&&◌}
use mathlib.Core.List.{List, []}
use mathlib.Core.Option.{Option, none, some}
use borrow.Author.Tests.{eqb-false, le-ltb, lt-leb}
use lib.Dec.{eqb}
use lib.ListN.{length, take, drop, get_or}
use lib.Seq.{slice-cons, take-append_seam}
use Rattle.definition.specs.Base.{whether◌then◌else◌}
use Rattle.definition.specs.Calls.{Lengths, state_short, sound}
use Rattle.definition.specs.Words.{at}
use Rattle.definition.specs.Layout.{Row, Buffers, flag, is_mark, view, formed, sound_buffers, lengths_of, lent}
use Rattle.definition.proofs.Tests.{by-test, by-if, and_right}
use Rattle.state.proofs.View.{is-queue}
use Rattle.fates.specs.Blocks.{Block, account_of}
use Rattle.fates.proofs.Totals.{blocks-are-few}
use Rattle.definition_station.specs.Types.{StationSlot, slot_of}
use Rattle.definition_station.specs.Layout.{StationBuffers, part, is_open, slot_at, part_formed, station_view}
use Rattle.definition_station.proofs.Buffers.{at_place, opened-at, part-lengths}
use Rattle.report.specs.declared.Listed.{Listed}
use Rattle.report.specs.Report.{list_with, held_refusal, as_held, held_list}
use Rattle.report.proofs.Accounting.{as_long}
use Rattle.stationcalls.specs.Parts.{lent_all, Within}
use Rattle.stationcalls.proofs.Placed.{at_part}
use Rattle.stationrun.specs.StationRuns.{station_by}
use Rattle.stationreport.specs.StationReporting.{place_held, holds_at, slot_is_queue}
use Rattle.stationreport.specs.Gathering.{ListedFirst}

-- ---- its slot

module _ (b : StationBuffers) (k : ℕ) where
  pub slot-here : k < 8 → slot_of k (station_view b) ≡ slot_at b k
  unfolding station_view
  slot-here h = at_place (slot_at b) none 0 8 k h ∙ ap (slot_at b) (add-zero k)

  pub slot-past : 7 < k → slot_of k (station_view b) ≡ none
  slot-past h = none-there (slot_of k (station_view b)) refl
    where
      none-there : (o : Option StationSlot) → slot_of k (station_view b) ≡ o → o ≡ none
      none-there none e = refl
      none-there (some x) e = absurd (omega (arith, h, (opened-at b k x e).0))

-- ---- what it holds

-- a mark that is not 1 shows nothing
unmarked : (n : ℕ) → (n ≡ 1 → ⊥) → (p : Bool) (x : StationSlot) → place_held (is_mark n && p) (whether flag n then some x else none) ≡ []
unfolding place_held
unmarked n ne p x = by-test (eqb n 0)
    (λ z. rw z)
    (λ z. rw (z, lt-leb n 1 (omega (arith, ne, eqb-false n 0 z))))

module _ (b : StationBuffers) (k : ℕ) (events : List Row) where
  pub holds-past : 7 < k → holds_at k (station_by b events) ≡ []
  unfolding place_held
  holds-past h = ap (place_held _) (slot-past b k h)

  module _ (h : k < 8) where
    holds-here : holds_at k (station_by b events) ≡ place_held (part_formed b k) (slot_at b k)
    holds-here = ap₂ place_held (at_place (part_formed b) false 0 8 k h ∙ ap (part_formed b) (add-zero k)) (slot-here b k h)

    pub holds-none : (at k b.own ≡ 1 → ⊥) → holds_at k (station_by b events) ≡ []
    unfolding part_formed slot_at
    holds-none ne = holds-here ∙ unmarked (at k b.own) ne _ _

    pub holds-sound : at k b.own ≡ 1 → holds_at k (station_by b events) ≡ (whether sound_buffers (part k b) then account_of (view (part k b)) else [])
    unfolding place_held part_formed slot_at sound_buffers
    holds-sound e = holds-here ∙ rw e

-- ---- as the code lists it

pub none-listed : {l : List Block} {most : ℕ} {list : List Block} → l ≡ [] → ListedFirst l most list 0 list
none-listed {l} {most} {list} e = record { count = sym (ap length e); few = omega arith; first = sym (ap (λ (x : List Block). list_with x list) e) }

-- they are the first of the list after it, which is as long as it was
pub listed-are : {l list list' : List Block} {most r : ℕ} → ListedFirst l most list r list' → take r list' ≡ l
listed-are {l} {list} e = ap₂ (λ (n : ℕ) (x : List Block). take n x) e.count e.first ∙ take-append_seam l (drop (length l) list)

pub listed-long : {l list list' : List Block} {most r : ℕ} → ListedFirst l most list r list' → most ≤ length list → length list' ≡ length list
listed-long {l} {list} e h = ap length e.first ∙ as_long l list (omega (arith, e.count, e.few, h))

abbrev soundly : Buffers → List Block
soundly p = whether sound_buffers p then account_of (view p) else []

soundly-few : (p : Buffers) → length (soundly p) ≤ 512
unfolding sound_buffers
soundly-few p = by-if (λ (l : List Block). length l ≤ 512) (sound_buffers p) (account_of (view p)) []
    (λ t. (blocks-are-few (view p) (and_right (formed p) (sound (view p)) t)).0)
    (λ _. omega arith)

soundly-listed : (p : Buffers) (list : List Block) → 512 ≤ length list → state_short (lengths_of p 0) ≡ false → ((as_held p (length list)).count ≡ length (soundly p)) × (held_list p list ≡ list_with (soundly p) list)
unfolding as_held held_list held_refusal
soundly-listed p list room long = by-test (sound_buffers p)
    (λ t. rw (le-ltb (length list) 512 room, long, t) (refl, refl))
    (λ t. rw (le-ltb (length list) 512 room, long, t) (refl, refl))

module _ (k : ℕ) (heads : List ℕ) (subs rows : List Row) (own : List ℕ) where
  abbrev b : StationBuffers
  b = lent_all heads subs rows own

  module _ (w : Within k heads subs rows) where
    pub none-shown : (list : List Block) → (at k own ≡ 1 → ⊥) → ListedFirst (holds_at k (station_by b [])) 512 list 0 list
    none-shown list ne = none-listed (holds-none b k [] w.is-place ne)

    part-listed : (list : List Block) → 512 ≤ length list → ((as_held (part k b) (length list)).count ≡ length (soundly (part k b))) × (held_list (part k b) list ≡ list_with (soundly (part k b)) list)
    unfolding state_short
    part-listed list room = soundly-listed (part k b) list room (ap (λ (l : Lengths). state_short l) (part-lengths k b w.is-place w.heads-long w.subs-long w.rows_long))

    pub held-shown : (list list' : List Block) → 512 ≤ length list → at k own ≡ 1 → (r : Listed)
        → (let p = lent (take ((k * 8347 + 8347) - k * 8347) (drop (k * 8347) heads)) (take ((k * 32 + 32) - k * 32) (drop (k * 32) subs)) (take ((k * 512 + 512) - k * 512) (drop (k * 512) rows)) in (r ≡ as_held p (length list)) × (list' ≡ held_list p list))
        → ListedFirst (holds_at k (station_by b [])) 512 list r.count list'
    held-shown list list' room one r e =
        let says = at_part k heads subs rows w (λ (p : Buffers). (r ≡ as_held p (length list)) × (list' ≡ held_list p list)) e own in
        let is = holds-sound b k [] w.is-place one in
        let many : r.count ≡ length (soundly (part k b)) = ap (λ (x : Listed). x.count) says.0 ∙ (part-listed list room).0 in record {
          count = many ∙ sym (ap length is);
          few = omega (arith, many, soundly-few (part k b));
          first = says.1 ∙ (part-listed list room).1 ∙ sym (ap (λ (l : List Block). list_with l list) is);
        }

  -- ---- whether it is a queue

  pub no_place : 7 < k → false ≡ slot_is_queue (slot_of k (station_view b))
  no_place h = sym (ap slot_is_queue (slot-past b k h))

  module _ (h : k < 8) where
    pub shut-place : is_open k b ≡ false → false ≡ slot_is_queue (slot_of k (station_view b))
    unfolding slot_at
    shut-place o = sym (ap slot_is_queue (slot-here b k h) ∙ rw o)

    pub queue-place : is_open k b ≡ true → 66776 ≤ length heads → eqb (get_or heads (k * 8347) 0) 0 ≡ slot_is_queue (slot_of k (station_view b))
    unfolding slot_at part view
    queue-place o long =
        let first : at 0 (part k b).head ≡ get_or heads (k * 8347) 0 = ap (at 0) (slice-cons (k * 8347) (k * 8347 + 8347) heads 0 (omega arith) (omega (arith, h, long))) in
        sym (ap slot_is_queue (slot-here b k h) ∙ rw o (is-queue (eqb (at 0 (part k b).head) 0) ∙ ap (λ (n : ℕ). eqb n 0) first))
