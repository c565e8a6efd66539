-- A step of a station's report. Assumes nothing.
use Prim.Native.Nat.{ℕ, ◌≤◌, ◌<◌}
use native.Mathlib.Omega.{arith}
use mathlib.Core.Path.{◌≡◌, refl, sym, ap, ◌∙◌}
use mathlib.Core.Bool.{Bool, true, false, not, ◌&&◌}
use mathlib.Core.List.{List}
use borrow.Author.Tests.{eqb-true, eq-eqb, ne_eqb, not-true}
use lib.Dec.{eqb}
use lib.ListN.{length}
use Rattle.definition.specs.Base.{whether◌then◌else◌}
use Rattle.definition.specs.Layout.{Row}
use Rattle.definition.proofs.Tests.{by-if, and_left, and_right}
use Rattle.definition_station.specs.Station.{StationLengths, station_short, StationResult}
use Rattle.definition_station.specs.Layout.{StationBuffers, station_lengths_of}
use Rattle.calls.specs.declared.Call.{Call}
use Rattle.callfile.specs.Blocks.{calls_in, call_at}
use Rattle.running.specs.Running.{Turned}
use Rattle.stationrun.specs.declared.StationReading.{StationReading}
use Rattle.stationrun.specs.StationRuns.{station_by, file_call, taken_by}
use Rattle.stationrun.specs.CallSteps.{next_call, reading_after, whole_at}
use Rattle.stationrun.proofs.CallSteps.{call-done}
use Rattle.stationrun.proofs.Stepped.{keeps-all}
use Rattle.stationreport.specs.StationReporting.{StationNoting, counts_after, station_noted, station_noted_lines, station_report_call, noted_by, StationNotes}
use Rattle.stationreport.specs.StationReportFiles.{ReportKeeps, ReportStepped, report_fit}
use Rattle.stationreport.proofs.EachPlace.{each-many}

-- ---- the tests

module _ (l : StationLengths) (places : ℕ) (roomy on : Bool) where
  pub not_eight : (places ≡ 8 → ⊥) → false ≡ ((report_fit l places && roomy) && on)
  not_eight h = rw (ne_eqb places 8 h)

  pub too_short : places ≡ 8 → station_short l ≡ true → false ≡ ((report_fit l places && roomy) && on)
  too_short e h = rw (eq-eqb places 8 e, h)

  pub fit-goes : places ≡ 8 → station_short l ≡ false → {t : Bool} → t ≡ (roomy && on) → t ≡ ((report_fit l places && roomy) && on)
  fit-goes e h f = rw (eq-eqb places 8 e, h) f

module _ (l : StationLengths) (places : ℕ) (e : report_fit l places ≡ true) where
  pub fit-eight : places ≡ 8
  fit-eight = eqb-true places 8 (and_left (eqb places 8) (not (station_short l)) e)

  pub fit-long : station_short l ≡ false
  fit-long = not-true (station_short l) (and_right (eqb places 8) (not (station_short l)) e)

-- ---- what is kept

-- nothing is done
pub report-keeps-all : (b : StationBuffers) (events gone : List Row) → ReportKeeps b b events events gone gone false
report-keeps-all b events gone = (keeps-all b events, refl)

-- the counts have as many places
counts-long : (c : Call) (q : StationResult) (s : StationNoting) → length (station_noted c q s).gone ≡ length s.gone
unfolding station_noted
counts-long c q s = by-if (λ (gs : List Row). length gs ≡ length s.gone) (taken_by q) (counts_after c q s.lent 0 s.gone) s.gone
    (λ _. each-many _ 0 s.gone)
    (λ _. refl)

-- ---- a call of a block that is whole

module _ (at : StationReading) (from : ℕ) (block : List ℕ) (b : StationBuffers) (events gone : List Row) (out : List ℕ) (fits : length block ≡ 512) (room : 1740800 ≤ length out)
    (count : ℕ) (counted : count ≡ calls_in block (length block)) (there : at.run < count) (x : Call) (named : x ≡ call_at at.run block) (b' : StationBuffers) (events' gone' : List Row)
  where
    abbrev l : StationLengths
    l = station_lengths_of b (length events)

    abbrev q : StationResult
    q = file_call l x (station_by b events)

    abbrev t : Turned StationNoting
    t = record { text = station_noted_lines at.reading.index x q (station_by b events); changed = taken_by q; lent = noted_by b' events' gone' }

    module _ {n : ℕ} {out' : List ℕ} (f : StationNotes q at.reading.index x b b' events events' gone gone' out out' n) where
      does : station_report_call l at.reading.index x (noted_by b events gone) ≡ t
      unfolding station_report_call station_noted
      does = λ j. record { text = t.text; changed = t.changed; lent = record { lent = sym f.called.shows j; gone = sym f.counts j } }

      pub report-done : n ≤ 1740800 → {reading : StationReading} → reading ≡ reading_after at count
          → ReportStepped (next_call (station_report_call l) at.run (whole_at at block (noted_by b events gone))) true at from b b' events events' gone gone' out out' (record { reading = reading; next = from; written = n })
      report-done few e =
          call-done (station_report_call l) at from block (noted_by b events gone) out count counted (ReportKeeps b b' events events' gone gone') there fits x named t does f.puts (omega (arith, room, few, f.puts.next)) e
          (f.called.left, ap length f.counts ∙ counts-long x q (noted_by b events gone))
