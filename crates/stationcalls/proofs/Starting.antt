-- A start on lent buffers. Assumes nothing.
use mathlib.Core.Path.{◌≡◌, refl, sym, ap}
use mathlib.Core.Bool.{Bool, true, false}
use mathlib.Core.List.{List, []}
use Prim.Native.Nat.{ℕ}
use native.Mathlib.Omega.{arith}
use lib.ListN.{length}
use Rattle.definition.specs.Layout.{Row}
use Rattle.definition.proofs.Tests.{if-true, if-false}
use Rattle.definition_station.specs.Station.{StationResult, station_refused, station_short, station_start}
use Rattle.definition_station.specs.Types.{started}
use Rattle.definition_station.specs.Layout.{StationBuffers, station_lengths_of, station_view}
use Rattle.definition_station.specs.Called.{own_started, StationStarted}
use Rattle.stationcalls.specs.Parts.{lent_all}

module _ (heads : List ℕ) (subs rows : List Row) (own : List ℕ) (events : List Row) where
  abbrev b : StationBuffers
  b = lent_all heads subs rows own

  abbrev is_short : Bool
  is_short = station_short (station_lengths_of b (length events))

  abbrev q : StationResult
  q = station_start (station_lengths_of b (length events)) (station_view b)

  is-refused : is_short ≡ true → q ≡ station_refused 1 (station_view b)
  unfolding station_start
  is-refused e = if-true _ _ e

  is-done : is_short ≡ false → q ≡ record { refusal = 0; answer = 0; events = []; station = started }
  unfolding station_start
  is-done e = if-false _ _ e

  pub start-refused : is_short ≡ true → StationStarted q b b events events 1
  start-refused e = record {
    refuses = sym (ap (λ (r : StationResult). r.refusal) (is-refused e));
    heads = refl;
    subs = refl;
    rows = refl;
    sends = refl;
    own = λ z. absurd (omega (arith, z, ap (λ (r : StationResult). r.refusal) (is-refused e)));
    kept = λ z. refl;
  }

  pub start-done : (own' : List ℕ) → is_short ≡ false → own' ≡ own_started own → StationStarted q b (lent_all heads subs rows own') events events 0
  start-done own' e o = record {
    refuses = sym (ap (λ (r : StationResult). r.refusal) (is-done e));
    heads = refl;
    subs = refl;
    rows = refl;
    sends = refl;
    own = λ z. o;
    kept = λ z. absurd (z (ap (λ (r : StationResult). r.refusal) (is-done e)));
  }
