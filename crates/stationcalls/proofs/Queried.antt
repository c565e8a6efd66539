-- What a query of a station meets first, as the code tests it, and its own numbers. Assumes nothing.
use mathlib.Core.Path.{◌≡◌, refl, ap, ◌∙◌}
use mathlib.Core.Bool.{Bool, true, false, not, ◌||◌}
use Prim.Native.Nat.{ℕ, ◌≤◌}
use native.Mathlib.Omega.{arith}
use borrow.Author.Tests.{eqb-true}
use lib.Dec.{ltb, eqb}
use lib.ListN.{length}
use Rattle.definition.specs.Words.{at}
use Rattle.definition.proofs.Tests.{by-test, by-if}
use Rattle.definition_station.specs.Station.{station_events, station_short}
use Rattle.definition_station.specs.Layout.{StationBuffers, station_view, sound_station, station_lengths_of}
use Rattle.definition_station.proofs.Buffers.{own-long}
use Rattle.stationcalls.specs.declared.OwnNumbers.{OwnNumbers}
use Rattle.stationcalls.specs.Queried.{station_checked, own_numbers, buffer_numbers}

or-none : (x : Bool) → x ≡ (x || false)
or-none true = refl
or-none false = refl

module _ (b : StationBuffers) where
  abbrev is_short : Bool
  is_short = station_short (station_lengths_of b station_events)

  -- an event list of its length is not short
  pub short-is : not (ltb (length b.heads) 66776 || (ltb (length b.subs) 256 || (ltb (length b.rows) 4096 || ltb (length b.own) 20))) ≡ not is_short
  unfolding station_short
  short-is = ap (λ (t : Bool). not (ltb (length b.heads) 66776 || (ltb (length b.subs) 256 || (ltb (length b.rows) 4096 || t)))) (or-none (ltb (length b.own) 20))

  pub checked-short : is_short ≡ true → 1 ≡ station_checked b
  unfolding station_checked
  checked-short h = rw h

  pub checked-unsound : is_short ≡ false → sound_station b ≡ false → 2 ≡ station_checked b
  unfolding station_checked
  checked-unsound h u = rw (h, u)

  pub checked-sound : is_short ≡ false → sound_station b ≡ true → 0 ≡ station_checked b
  unfolding station_checked
  checked-sound h s = rw (h, s)

  -- ---- the numbers

  pub checked-long : station_checked b ≡ 0 → is_short ≡ false
  checked-long e = by-test is_short (λ y. absurd (omega (arith, e, checked-short y))) (λ n. n)

  pub own-there : station_checked b ≡ 0 → 20 ≤ length b.own
  own-there e = own-long b station_events (checked-long e)

  pub numbers-refused : (n : ℕ) → n ≡ station_checked b → (n ≡ 0 → ⊥) → own_numbers n 0 0 ≡ buffer_numbers b
  unfolding buffer_numbers
  numbers-refused n e z = ap (λ (m : ℕ). own_numbers m 0 0) e ∙ by-if (λ (r : OwnNumbers). own_numbers (station_checked b) 0 0 ≡ r) (eqb (station_checked b) 0) _ _ (λ y. absurd (z (e ∙ eqb-true (station_checked b) 0 y))) (λ y. refl)

  as-held : station_checked b ≡ 0 → own_numbers 0 (at 16 b.own) (at 17 b.own) ≡ buffer_numbers b
  unfolding buffer_numbers station_view
  as-held e = rw e

  pub numbers-are : station_checked b ≡ 0 → (next lost : ℕ) → next ≡ at 16 b.own → lost ≡ at 17 b.own → own_numbers 0 next lost ≡ buffer_numbers b
  numbers-are e next lost p q = (λ i. own_numbers 0 (p i) (q i)) ∙ as-held e
