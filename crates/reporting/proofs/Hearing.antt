-- A step of a report on a piece, and the last lines. Assumes nothing.
use Prim.Native.Nat.{ℕ, ◌+◌, ◌*◌, ◌≤◌, ◌<◌}
use native.Mathlib.Omega.{arith}
use mathlib.Core.Path.{◌≡◌, sym, ◌∙◌, subst, subst⁻¹}
use mathlib.Core.Bool.{Bool, true, false, ◌&&◌}
use mathlib.Core.List.{List, [], ◌++◌}
use borrow.Author.Tests.{leb-true, le-leb, lt-leb}
use lib.Dec.{leb}
use lib.ListN.{length, take}
use Rattle.definition.specs.Types.{Stats}
use Rattle.definition.specs.Layout.{Row, Buffers, lengths_of}
use Rattle.definition.proofs.Tests.{if-true, if-false, and_left, and_right}
use Rattle.fates.specs.Blocks.{Block}
use Rattle.callfile.specs.declared.Reading.{Reading}
use Rattle.callfile.specs.declared.Took.{Took}
use Rattle.callfile.specs.Lines.{counters_line}
use Rattle.callfile.specs.Placed.{Puts, PutLine}
use Rattle.callfile.proofs.Parts.{then, line-puts, whole-line, no_room, blank}
use Rattle.reportlines.specs.declared.Ways.{Ways}
use Rattle.reportlines.specs.ReportLines.{blocks_text, totals_line}
use Rattle.reportlines.proofs.Blocks.{totals-length, blocks-few}
use Rattle.running.specs.Running.{Doing, Left}
use Rattle.running.specs.Files.{roomy, rest_line}
use Rattle.running.proofs.Steps.{unfilled-block, Steps, moves-on as on}
use Rattle.running.proofs.Files.{rest-length, counters-length}
use Rattle.reporting.specs.declared.Kept.{Kept}
use Rattle.reporting.specs.declared.Heard.{Heard}
use Rattle.reporting.specs.Reporting.{Noting, ways_of, report_call, noting_by}
use Rattle.reporting.specs.ReportFiles.{roomy_lists, ReportsPiece, tail_lines, last_report}

-- ---- the tests

module _ (t : Bool) (held count : ℕ) where
  pub not-roomy : t ≡ false → false ≡ (t && (leb 512 held && leb count 512))
  not-roomy e = rw e

  pub short-list : t ≡ true → held < 512 → false ≡ (t && (leb 512 held && leb count 512))
  short-list e h = rw (e, lt-leb 512 held h)

  pub by_count : t ≡ true → 512 ≤ held → leb count 512 ≡ (t && (leb 512 held && leb count 512))
  by_count e h = rw (e, le-leb 512 held h)

-- what they say together
module _ (at : Reading) (block out : List ℕ) (held : List Block) (k : Kept) (e : roomy_lists at block out held k ≡ true) where
  pub is-roomy : roomy 949760 at block out ≡ true
  is-roomy = and_left (roomy 949760 at block out) (leb 512 (length held) && leb k.count 512) e

  lists : (leb 512 (length held) && leb k.count 512) ≡ true
  lists = and_right (roomy 949760 at block out) (leb 512 (length held) && leb k.count 512) e

  pub long-list : 512 ≤ length held
  long-list = leb-true 512 (length held) (and_left (leb 512 (length held)) (leb k.count 512) lists)

  pub few-held : k.count ≤ 512
  few-held = leb-true k.count 512 (and_right (leb 512 (length held)) (leb k.count 512) lists)

-- ---- a step

module _ (at : Reading) (piece : List ℕ) (from : ℕ) (b b' : Buffers) (events events' : List Row) (held held' : List Block) (k k' : Kept) (block block' out out' : List ℕ) (took : Took) where
  abbrev one : Doing Noting
  one = report_call (lengths_of b (length events))

  abbrev goes : Bool
  goes = roomy_lists at block out held k && at.goes_on

  pub hears : {changed : Bool} {s' : Noting} → Steps one at piece from (noting_by b events held k) block out goes changed s' block' out' took → noting_by b' events' held' k' ≡ s' → Left changed b b' events events' → (k.count ≤ 512 → k'.count ≤ 512) → length held' ≡ length held
      → ReportsPiece at piece from b b' events events' held held' k block block' out out' (record { took = took; kept = k' })
  hears x e l few same = record { taken = x.taken; shows = e ∙ sym x.leaves; left = subst⁻¹ (λ (t : Bool). Left t b b' events events') x.changes l; few = few; same = same }

-- a step on a piece that is not used up goes on in it
pub moves-on : (at : Reading) (piece : List ℕ) (from : ℕ) (b b' : Buffers) (events events' : List Row) (held held' : List Block) (k : Kept) (block block' out out' : List ℕ) (r : Heard) → ReportsPiece at piece from b b' events events' held held' k block block' out out' r → from < length piece → from < r.took.next
moves-on at piece from b b' events events' held held' k block block' out out' r t h =
    on (report_call (lengths_of b (length events))) at piece from (noting_by b events held k) block out (roomy_lists at block out held k && at.goes_on)
    (λ e. unfilled-block 949760 at block out (is-roomy at block out held k (and_left (roomy_lists at block out held k) at.goes_on e))) t.taken h

-- ---- the last lines

module _ (held : List Block) (k : Kept) (s : Stats) (w : Ways) (same : w ≡ ways_of (take k.count held)) (few : k.count ≤ 512) {at a b r : ℕ} {out out₁ out₂ out₃ : List ℕ} (room : at + 33152 ≤ length out)
    (p : PutLine (128 + 64 * k.count) (blocks_text (take k.count held)) at out a out₁)
    (p₂ : PutLine 384 (totals_line w k.gone) a out₁ b out₂)
    (p₃ : PutLine 128 (counters_line s) b out₂ r out₃)
  where
    one-put : Puts (blocks_text (take k.count held)) at out a out₁
    one-put = line-puts (omega (arith, room, few)) (omega (arith, blocks-few k.count held)) p

    two-put : Puts (totals_line w k.gone) a out₁ b out₂
    two-put = line-puts (omega (arith, room, few, one-put.next, one-put.same, blocks-few k.count held)) (omega (arith, totals-length w k.gone)) p₂

    three-put : Puts (counters_line s) b out₂ r out₃
    three-put = line-puts (omega (arith, room, few, one-put.next, one-put.same, blocks-few k.count held, two-put.next, two-put.same, totals-length w k.gone)) (counters-length s) p₃

    pub tail-put : Puts (tail_lines held k s) at out r out₃ × (r ≤ at + 33152)
    unfolding tail_lines
    tail-put = (
      subst (λ (x : Ways). Puts (blocks_text (take k.count held) ++ (totals_line x k.gone ++ counters_line s)) at out r out₃) same ((then) one-put ((then) two-put three-put)),
      omega (arith, few, one-put.next, blocks-few k.count held, two-put.next, totals-length w k.gone, three-put.next, counters-length s),
    )

module _ (at : Reading) (failed : Bool) (held : List Block) (k : Kept) (s : Stats) (out : List ℕ) where
  pub no-last-room : length out < 33280 → PutLine 33280 (last_report at failed held k s) 0 out 0 out
  no-last-room h = no_room (last_report at failed held k s) out 0 (lt-leb (0 + 33280) (length out) (omega arith))

  pub none_told : 512 < k.count → PutLine 33280 (last_report at failed held k s) 0 out 0 out
  unfolding last_report
  none_told h = subst⁻¹ (λ (t : List ℕ). PutLine 33280 t 0 out 0 out) (if-false (rest_line at failed ++ tail_lines held k s) [] (lt-leb k.count 512 h)) (blank 0 out)

  pub last-put : 33280 ≤ length out → k.count ≤ 512 → (s' : Stats) → s' ≡ s → {from r : ℕ} {out₁ out₂ : List ℕ} → PutLine 128 (rest_line at failed) 0 out from out₁ → Puts (tail_lines held k s') from out₁ r out₂ × (r ≤ from + 33152) → PutLine 33280 (last_report at failed held k s) 0 out r out₂
  unfolding last_report
  last-put h few s' e {from} {r} {out₁} {out₂} l p =
      let first : Puts (rest_line at failed) 0 out from out₁ = line-puts (omega (arith, h)) (rest-length at failed) l in
      subst⁻¹ (λ (t : List ℕ). PutLine 33280 t 0 out r out₂) (if-true (rest_line at failed ++ tail_lines held k s) [] (le-leb k.count 512 few))
      (subst (λ (x : Stats). PutLine 33280 (rest_line at failed ++ tail_lines held k x) 0 out r out₂) e
      (whole-line (le-leb (0 + 33280) (length out) (omega (arith, h))) ((then) first p.0, omega (arith, first.next, rest-length at failed, p.1))))

  pub rest-room : 33280 ≤ length out → {from : ℕ} {out₁ : List ℕ} → PutLine 128 (rest_line at failed) 0 out from out₁ → from + 33152 ≤ length out₁
  rest-room h {from} {out₁} l =
      let first : Puts (rest_line at failed) 0 out from out₁ = line-puts (omega (arith, h)) (rest-length at failed) l in
      omega (arith, h, first.next, first.same, rest-length at failed)
