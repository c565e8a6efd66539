-- A step of a run on a piece, and the last lines. Assumes nothing.
use Prim.Native.Nat.{ℕ, ◌+◌, ◌≤◌, ◌<◌}
use native.Mathlib.Omega.{arith}
use mathlib.Core.Path.{◌≡◌, sym, ◌∙◌, subst, subst⁻¹}
use mathlib.Core.Bool.{Bool, true, false, not, ◌&&◌, ◌||◌}
use mathlib.Core.List.{List, [], ◌++◌}
use borrow.Author.Tests.{le-leb, lt-leb}
use lib.Dec.{eqb}
use lib.ListN.{length, length-append}
use Rattle.definition.specs.Types.{Stats}
use Rattle.definition.specs.Layout.{Row, Buffers, lengths_of}
use Rattle.definition.proofs.Tests.{by-test, if-true, if-false, and_left}
use Rattle.callfile.specs.declared.Reading.{Reading}
use Rattle.callfile.specs.declared.Took.{Took}
use Rattle.callfile.specs.Lines.{bad_line, counters_line}
use Rattle.callfile.specs.Placed.{Puts, PutLine}
use Rattle.callfile.proofs.Parts.{then, line-puts, whole-line, no_room, blank}
use Rattle.callfile.proofs.Digits.{word-length, bad-length}
use Rattle.running.specs.Running.{LentState, lent_by, Doing, run_call, Left}
use Rattle.running.specs.Files.{roomy, TakesPiece, is_unfinished, rest_line, last_lines}
use Rattle.running.proofs.Steps.{unfilled-block, Steps, moves-on as on}

-- ---- the tests

module _ (goes failed : Bool) (have : ℕ) where
  pub over : goes ≡ false → false ≡ (goes && (failed || not (eqb have 0)))
  over e = rw e

  pub broken : goes ≡ true → failed ≡ true → true ≡ (goes && (failed || not (eqb have 0)))
  broken e f = rw (e, f)

  pub by_bytes : goes ≡ true → failed ≡ false → not (eqb have 0) ≡ (goes && (failed || not (eqb have 0)))
  by_bytes e f = rw (e, f)

-- ---- the last lines

module _ (at : Reading) (failed : Bool) (out : List ℕ) where
  pub no-rest : is_unfinished at failed ≡ false → PutLine 128 (rest_line at failed) 0 out 0 out
  unfolding rest_line
  no-rest e = subst⁻¹ (λ (t : List ℕ). PutLine 128 t 0 out 0 out) (if-false (bad_line at.number) [] e) (blank 0 out)

  pub rest_put : is_unfinished at failed ≡ true → {r : ℕ} {out' : List ℕ} → PutLine 128 (bad_line at.number) 0 out r out' → PutLine 128 (rest_line at failed) 0 out r out'
  unfolding rest_line
  rest_put e {r} {out'} p = subst⁻¹ (λ (t : List ℕ). PutLine 128 t 0 out r out') (if-true (bad_line at.number) [] e) p

pub rest-length : (at : Reading) (failed : Bool) → length (rest_line at failed) ≤ 128
unfolding rest_line
rest-length at failed = by-test (is_unfinished at failed)
    (λ e. rw e (bad-length at.number))
    (λ e. rw e (omega arith))

pub counters-length : (s : Stats) → length (counters_line s) ≤ 128
unfolding counters_line
counters-length s = simp length-append (omega (arith, word-length s.enqueued, word-length s.dequeued, word-length s.expired, word-length s.discarded, word-length s.dispatched))

pub last-lines : (at : Reading) (failed : Bool) (s s' : Stats) → s ≡ s' → {out out₁ out₂ : List ℕ} {from r : ℕ} → 256 ≤ length out → PutLine 128 (rest_line at failed) 0 out from out₁ → PutLine 128 (counters_line s) from out₁ r out₂ → PutLine 256 (last_lines at failed s') 0 out r out₂
unfolding last_lines
last-lines at failed s s' e {out} {out₁} {out₂} {from} {r} h l q =
    subst (λ (t : Stats). PutLine 256 (rest_line at failed ++ counters_line t) 0 out r out₂) e
    (let p : Puts (rest_line at failed) 0 out from out₁ = line-puts (omega (arith, h)) (rest-length at failed) l in
    let second : Puts (counters_line s) from out₁ r out₂ = line-puts (omega (arith, h, p.next, p.same, rest-length at failed)) (counters-length s) q in
    whole-line (le-leb (0 + 256) (length out) (omega (arith, h))) ((then) p second, omega (arith, p.next, second.next, rest-length at failed, counters-length s)))

pub no-lines-room : (line out : List ℕ) → length out < 256 → PutLine 256 line 0 out 0 out
no-lines-room line out h = no_room line out 0 (lt-leb (0 + 256) (length out) (omega arith))

-- ---- a step

module _ (at : Reading) (piece : List ℕ) (from : ℕ) (b b' : Buffers) (events events' : List Row) (block block' out out' : List ℕ) (r : Took) where
  abbrev one : Doing LentState
  one = run_call (lengths_of b (length events))

  abbrev goes : Bool
  goes = roomy 489216 at block out && at.goes_on

  pub takes : {changed : Bool} {s' : LentState} → Steps one at piece from (lent_by b events) block out goes changed s' block' out' r → lent_by b' events' ≡ s' → Left changed b b' events events' → TakesPiece at piece from b b' events events' block block' out out' r
  takes x e l = record { taken = x.taken; shows = e ∙ sym x.leaves; left = subst⁻¹ (λ (t : Bool). Left t b b' events events') x.changes l }

  pub moves-on : TakesPiece at piece from b b' events events' block block' out out' r → from < length piece → from < r.next
  moves-on t h = on one at piece from (lent_by b events) block out goes (λ e. unfilled-block 489216 at block out (and_left (roomy 489216 at block out) at.goes_on e)) t.taken h
