-- The book of a queue on a station, computed along a list of calls. Assumes nothing.
use Prim.Native.Nat.{ℕ}
use mathlib.Core.Path.{◌≡◌, refl, sym, ◌∙◌, ap, subst⁻¹}
use mathlib.Core.Bool.{Bool, true, false, not, ◌||◌, true≢false}
use mathlib.Core.List.{[], ◌∷◌}
use lib.Dec.{eqb}
use borrow.Author.Tests.{eqb-true, eqb-false, eq-eqb}
use Rattle.definition.specs.Types.{Kind, queue, topic}
use Rattle.definition.specs.Queries.{is_queue}
use Rattle.definition.specs.Words.{at, kind_of}
use Rattle.definition.proofs.Tests.{by-if, by-test, if-true, if-false, and_left, and_right, and_both}
use Rattle.definition_station.specs.Types.{Station}
use Rattle.definition_station.specs.Station.{StationResult, station_step}
use Rattle.definition_station.specs.Orders.{StationCall, station_result, station_left}
use Rattle.definition_station.proofs.Refusals.{station-kept}
use Rattle.definition_stationfates.specs.Books.{Book, empty_book, Booked, opens, calls, opens_place, book_next, BooksAlong}
use Rattle.definition_stationfates.proofs.Books.{booked-is-reached}

queue-is : (k : Kind) → is_queue k ≡ true → k ≡ queue
queue-is queue h = refl
queue-is topic h = absurd (true≢false (sym h))

implied : (a b : Bool) → (not a || b) ≡ true → a ≡ true → b ≡ true
implied true b h e = h
implied false b h e = absurd (true≢false (sym e))

-- one call
module _ (j : ℕ) (b : Book) (s : Station) (c : StationCall) (r : Booked j b s) (q : (not (opens_place j c) || is_queue (kind_of (at 0 c.words))) ≡ true) where
  opened-anew : opens_place j c ≡ true → (station_result c s).refusal ≡ 0 → Booked j empty_book (station_left c s)
  opened-anew o =
      subst⁻¹ (λ (n : ℕ). (station_step c.lengths c.place n c.words s).refusal ≡ 0 → Booked j empty_book (station_step c.lengths c.place n c.words s).station) (eqb-true c.code 0 (and_left (eqb c.code 0) _ o))
      (subst⁻¹ (λ (k : ℕ). (station_step c.lengths k 0 c.words s).refusal ≡ 0 → Booked j empty_book (station_step c.lengths k 0 c.words s).station) (eqb-true c.place j (and_right (eqb c.code 0) _ o))
      (λ h. opens c.lengths c.words (booked-is-reached j b s r).1 h (queue-is _ (implied (opens_place j c) _ q o))))

  next-booked : Booked j (book_next j c s b) (station_left c s)
  next-booked = by-test (eqb (station_result c s).refusal 0)
      (λ a. subst⁻¹ (λ (v : Book). Booked j v (station_left c s)) (if-true _ b a) (by-if (λ (v : Book). Booked j v (station_left c s)) (opens_place j c) _ _
      (λ o. opened-anew o (eqb-true _ 0 a))
      (λ o. calls c.lengths c.place c.code c.words r (eqb-true _ 0 a) (λ e d. true≢false (sym (and_both (eqb c.code 0) _ (eq-eqb c.code 0 e) (eq-eqb c.place j d)) ∙ o)))))
      (λ a. subst⁻¹ (λ (v : Book). Booked j v (station_left c s)) (if-false _ b a) (subst⁻¹ (Booked j b) (ap (λ (v : StationResult). v.station) (station-kept c.lengths c.place c.code c.words s (eqb-false _ 0 a))) r))

pub books-along : BooksAlong
books-along j b s [] r h = r
books-along j b s (c ∷ l) r h = books-along j (book_next j c s b) (station_left c s) l (next-booked j b s c r (and_left _ _ h)) (and_right (not (opens_place j c) || is_queue (kind_of (at 0 c.words))) _ h)
