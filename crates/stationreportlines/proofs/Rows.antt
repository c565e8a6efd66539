-- Lines of a station's report: how long they are. Assumes nothing.
use Prim.Native.Nat.{ℕ, ◌+◌, ◌≤◌}
use native.Mathlib.Omega.{arith}
use mathlib.Core.Bool.{Bool}
use mathlib.Core.List.{List, [], ◌∷◌}
use lib.ListN.{length, length-append}
use Rattle.definition.specs.Words.{at}
use Rattle.fates.specs.Blocks.{Block}
use Rattle.callfile.specs.Placed.{Puts, PutLine}
use Rattle.callfile.proofs.Digits.{word-length}
use Rattle.callfile.proofs.Parts.{line-puts}
use Rattle.reportlines.specs.declared.Ways.{Ways}
use Rattle.reportlines.specs.declared.Gone.{Gone}
use Rattle.reportlines.specs.ReportLines.{brought_line, place_name, block_line, totals_line}
use Rattle.reportlines.proofs.Blocks.{name-length, block-length, brought-length}
use Rattle.stationlines.specs.StationLines.{numbered_line}
use Rattle.stationreportlines.specs.StationReportLines.{station_turn_line, ways_line, brought_line_on, told_line, block_line_on, totals_line_on}

-- a place's name
pub place-put : {at r : ℕ} {out out' : List ℕ} (place : ℕ) → at + 14 ≤ length out → PutLine 14 (place_name place) at out r out' → Puts (place_name place) at out r out' × (r ≤ at + 14)
place-put {at} {r} {out} {out'} place h p =
    let q : Puts (place_name place) at out r out' = line-puts h (name-length place) p in
    (q, omega (arith, q.next, name-length place))

-- ---- how long

numbered-length : (d : ℕ) (l : List ℕ) → length (numbered_line d l) ≤ length l + 21
unfolding numbered_line
numbered-length d [] = omega arith
numbered-length d (c ∷ l) = simp length-append (omega (arith, word-length d))

pub station-turn-length : (index d code refusal : ℕ) (w : Ways) → length (station_turn_line index d code refusal w) ≤ 256
unfolding station_turn_line
station-turn-length index d code refusal w = simp length-append (omega (arith, word-length index, word-length d, word-length code, word-length refusal, word-length w.waiting, word-length w.flying, word-length w.reserved))

pub ways-length : (e : ℕ) (w : Ways) → length (ways_line e w) ≤ 128
unfolding ways_line
ways-length e w = simp length-append (omega (arith, word-length e, word-length w.waiting, word-length w.flying, word-length w.reserved))

pub brought-on-length : (d refusal code : ℕ) (ws : List ℕ) (queue : Bool) → length (brought_line_on d refusal code ws queue) ≤ 256
brought-on-length d refusal code ws queue = omega (arith, numbered-length d (brought_line refusal code ws queue), brought-length refusal code ws queue)

pub totals-on-length : (d : ℕ) (w : Ways) (g : Gone) → length (totals_line_on d w g) ≤ 256
unfolding numbered_line totals_line
totals-on-length d w g = simp length-append (omega (arith, word-length d, word-length w.waiting, word-length w.flying, word-length w.reserved, word-length g.dequeued, word-length g.expired, word-length g.discarded, word-length g.dead_lettered, word-length g.cleared))

pub told-length : (d : ℕ) (r : List ℕ) → length (told_line d r) ≤ 128
unfolding told_line
told-length d r = simp length-append (omega (arith, word-length d, word-length (at 0 r), word-length (at 1 r), word-length (at 2 r)))

pub block-on-length : (d : ℕ) (b : Block) → length (block_line_on d b) ≤ 128
block-on-length d b = omega (arith, numbered-length d (block_line b), block-length b)
