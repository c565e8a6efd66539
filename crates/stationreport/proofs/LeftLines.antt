-- The lines of what left a place, and its counts. Assumes nothing.
use Prim.Native.Nat.{ℕ, ◌+◌, ◌*◌, ◌-◌, ◌≤◌, ◌<◌}
use native.Mathlib.Omega.{arith}
use mathlib.Core.Path.{ap, ap₂, subst}
use mathlib.Core.List.{List}
use lib.ListN.{length, take, drop}
use Rattle.definition.specs.Words as Words
use Rattle.definition.specs.Layout.{Row}
use Rattle.fates.specs.Blocks.{Block}
use Rattle.definition_station.specs.Layout.{StationBuffers}
use Rattle.callfile.specs.Placed.{Puts, PutLine}
use Rattle.callfile.proofs.Parts.{line-puts}
use Rattle.stationreportlines.specs.StationReportLines.{block_line_on, blocks_text_on}
use Rattle.stationlines.proofs.Rows.{rows_few}
use Rattle.stationreportlines.proofs.Rows.{block-on-length}
use Rattle.stationreport.specs.Gathering.{ListedFirst, FewHeld, came_to, part_gone, left_from}
use Rattle.stationreport.proofs.Shown.{listed-are}
use Rattle.stationreport.proofs.Gathered.{lent-there}

-- listed blocks, put where there is room for as many as they may be
pub blocks-put : (k : ℕ) {l list list' : List Block} {most n from r : ℕ} {out out' : List ℕ} → ListedFirst l most list n list' → from + (128 + 128 * most) ≤ length out → PutLine (128 + 128 * n) (blocks_text_on k (take n list')) from out r out'
    → Puts (blocks_text_on k l) from out r out' × (r ≤ from + 128 * most)
blocks-put k {l} {list} {list'} {most} {n} {from} {r} {out} {out'} e room p =
    let few = rows_few (block_line_on k) (block-on-length k) n list' in
    let put : Puts (blocks_text_on k (take n list')) from out r out' = line-puts (omega (arith, room, e.few)) (omega (arith, few)) p in
    (subst (λ (bs : List Block). Puts (blocks_text_on k bs) from out r out') (listed-are e) put, omega (arith, put.next, few, e.few))

-- what left, by the parts of the lists that the code lends
module _ (b : StationBuffers) (lists : List Block) (counts : List ℕ) (held : FewHeld lists counts) (told : List Row) (number code : ℕ) (ws : List ℕ) (j : ℕ) (h : j < 8) where
  pub left-listed : {come come' left left' : List Block} {came m most r : ℕ} → ListedFirst (came_to j number code ws told) came come m come'
      → ListedFirst (part_gone j code ws b (take (Words.at j counts) (take ((j * 512 + 512) - j * 512) (drop (j * 512) lists))) (take m come')) most left r left'
      → ListedFirst (left_from b lists counts told number code ws j) most left r left'
  left-listed {come} {come'} {left} {left'} {came} {m} {most} {r} e =
      subst (λ (l : List Block). ListedFirst l most left r left') (ap₂ (part_gone j code ws b) (ap (take (Words.at j counts)) (lent-there lists held.lists_length j h)) (listed-are e))
