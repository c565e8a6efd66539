-- Along the pieces of a file, of any program that does the calls of a block one after another: a step, and the end. Assumes nothing.
use Prim.Native.Nat.{ℕ, ◌+◌, ◌-◌, ◌≤◌, ◌<◌}
use native.Mathlib.Omega.{arith}
use mathlib.Core.Path.{◌≡◌, refl, sym, ap, ap₂, ◌∙◌, subst⁻¹}
use mathlib.Core.Bool.{Bool, true, false, not, ◌&&◌}
use mathlib.Core.List.{List, [], ◌++◌, append_assoc}
use borrow.Author.Tests.{eq-eqb, lt-leb, le-leb}
use lib.Dec.{eqb, ltb, leb}
use lib.ListN.{length, take, drop, length-append, length-take, length-drop}
use lib.Seq.{length-take-le, take_at, take-append_seam, drop-drop}
use Rattle.definition.specs.Base.{whether◌then◌else◌}
use Rattle.definition.proofs.Tests.{by-test, if-true, if-false}
use Rattle.callfile.specs.Blocks.{good, calls_in}
use Rattle.callfile.specs.declared.Reading.{Reading}
use Rattle.callfile.specs.declared.Took.{Took}
use Rattle.callfile.specs.Lines.{bad_line}
use Rattle.callfile.specs.Placed.{PutLine, line_placed, place_after}
use Rattle.callfile.specs.Cutting.{Did, Work, Stage, StepTaken, lacked, with_bytes, take_piece, end_of_file}
use Rattle.callfile.proofs.Cutting.{from_stage, one-step, step_small}
use Rattle.running.specs.Running.{Run, Doing, ends, each_of_block}
use Rattle.running.specs.Files.{RunState, work_block, stage_at, took_as, block_as, TookStep, is_unfinished, rest_line}

-- ---- a block that is not whole is a bad one

short-bad : (block : List ℕ) → length block < 512 → calls_in block (length block) ≡ 0
unfolding calls_in good
short-bad block h = rw (lt-leb 512 (length block) h)

short-run : {S : Type 0} (one : Doing S) (block : List ℕ) (index number : ℕ) (s : S) → length block < 512 → each_of_block one block index number s ≡ ends (bad_line number) index s
unfolding each_of_block
short-run one block index number s h = if-true _ _ (eq-eqb (calls_in block (length block)) 0 (short-bad block h))

-- a text that stands first in a buffer
pub put_first : (most : ℕ) (line out : List ℕ) → most ≤ length out → {r : ℕ} {out' : List ℕ} → PutLine most line 0 out r out' → take r out' ≡ line
unfolding line_placed place_after
put_first most line out h {r} {out'} p =
    let room : leb (0 + most) (length out) ≡ true = le-leb (0 + most) (length out) (omega arith) in
    ap₂ (λ (k : ℕ) (x : List ℕ). take k x) (p.next ∙ if-true _ _ room) (p.text ∙ if-true _ _ room) ∙ take_at line (drop (0 + length line) out) (0 + length line) (omega arith)

-- ---- a step

-- the bytes that stand in the block then
module _ {S : Type 0} (one : Doing S) (have number : ℕ) (block rest : List ℕ) (s : RunState S) where
  abbrev g : Bool → Stage (RunState S)
  g goes = record { begun = take have block; number = number; goes_on = goes; state = s }

  abbrev begun : Bool → List ℕ
  begun goes = (take_piece (work_block one) rest (g goes)).stage.begun

  abbrev now : List ℕ
  now = take have block ++ lacked (take have block) rest

  abbrev after : List ℕ
  after = drop (have + length (lacked (take have block) rest)) block

  begun-part : ltb (length now) 512 ≡ true → begun true ≡ now
  unfolding take_piece with_bytes
  begun-part e = ap (λ (x : StepTaken (RunState S)). x.stage.begun) (if-true _ _ e)

  begun-whole : ltb (length now) 512 ≡ false → begun true ≡ []
  unfolding take_piece with_bytes
  begun-whole e = ap (λ (x : StepTaken (RunState S)). x.stage.begun) (if-false _ _ e)

  stands : (goes : Bool) → take (whether goes then length (begun goes) else have) (block_as goes have rest block) ≡ begun goes
  unfolding take_piece
  stands false = refl
  stands true = by-test (ltb (length now) 512)
      (λ e. subst⁻¹ (λ (x : List ℕ). take (length x) (block_as true have rest block) ≡ x) (begun-part e)
      (ap (take (length now)) (sym (append_assoc (take have block) (lacked (take have block) rest) after)) ∙ take-append_seam now after))
      (λ e. subst⁻¹ (λ (x : List ℕ). take (length x) (block_as true have rest block) ≡ x) (begun-whole e) refl)

  still : length block ≡ 512 → have < 512 → (goes : Bool) → length (block_as goes have rest block) ≡ 512
  still e h false = e
  still e h true =
      let x : length (take have block) ≡ have = length-take-le have block (omega arith) in
      let part = lacked (take have block) rest in
      length-append (take have block) (part ++ drop (have + length part) block)
      ∙ (omega (arith, length-append part (drop (have + length part) block), length-drop (have + length part) block, length-take (512 - length (take have block)) rest))

  unfilled-so : have < 512 → length (take have block) < 512 → (goes : Bool) → (whether goes then length (begun goes) else have) < 512
  unfilled-so h k false = h
  unfilled-so h k true = step_small (work_block one) (g true) k rest

-- what a program prints, where it has such lines at the end for what it leaves
module _ {S : Type 0} (one : Doing S) (tail : S → List ℕ) where
  abbrev work : Work (RunState S)
  work = work_block one

  abbrev pub lines : Did (RunState S) → List ℕ
  lines d = d.text ++ tail d.state.lent

  module _ (at : Reading) (block : List ℕ) (s : S) (places : length block ≡ 512) (unfilled : at.have < 512) where
    had : length (take at.have block) ≡ at.have
    had = length-take-le at.have block (omega (arith, places, unfilled))

    pub small : length (take at.have block) < 512
    small = omega (arith, had, unfilled)

    pub ending : rest_line at false ++ tail s ≡ lines (end_of_file work (stage_at at block s))
    unfolding rest_line end_of_file work_block
    ending = by-test (is_unfinished at false)
        (λ e. ap (λ (t : List ℕ). t ++ tail s) (if-true _ _ e)
        ∙ sym (ap lines (if-true _ _ (same ∙ e) ∙ ap (λ (q : Run S). as-did q) (short-run one (take at.have block) at.index at.number s small))))
        (λ e. ap (λ (t : List ℕ). t ++ tail s) (if-false _ _ e) ∙ sym (ap lines (if-false _ _ (same ∙ e))))
      where
        as-did : Run S → Did (RunState S)
        as-did q = record { text = q.text; goes_on = q.goes_on; state = record { index = q.index; lent = q.lent } }

        same : (at.goes_on && not (eqb (length (take at.have block)) 0)) ≡ is_unfinished at false
        same = ap (λ (k : ℕ). at.goes_on && not (eqb k 0)) had

    module _ (at' : Reading) (block' : List ℕ) (s' : S) (piece : List ℕ) (from : ℕ) (out out' : List ℕ) (r : Took)
        (t : TookStep S (take_piece work (drop from piece) (stage_at at block s)) at.goes_on at (drop from piece) from block block' out out' r) (next : at' ≡ r.reading)
        (shows : s' ≡ (take_piece work (drop from piece) (stage_at at block s)).stage.state.lent)
      where
        abbrev rest : List ℕ
        rest = drop from piece

        abbrev p : StepTaken (RunState S)
        p = take_piece work rest (stage_at at block s)

        reading-so : at' ≡ (took_as at.goes_on at from p).reading
        reading-so = next ∙ ap (λ (x : Took). x.reading) t.answer

        printed : take r.written out' ≡ p.text
        printed = ap₂ (λ (k : ℕ) (x : List ℕ). take k x) (ap (λ (x : Took). x.written) t.answer) t.text ∙ take-append_seam p.text (drop (length p.text) out)

        left_over : drop r.next piece ≡ drop p.used rest
        left_over = ap (λ (x : Took). drop x.next piece) t.answer ∙ sym (drop-drop p.used from piece)

        staged : stage_at at' block' s' ≡ p.stage
        staged =
            let bytes : take at'.have block' ≡ p.stage.begun =
            ap₂ (λ (k : ℕ) (x : List ℕ). take k x) (ap (λ (x : Reading). x.have) reading-so) t.bytes
            ∙ stands one at.have at.number block rest (stage_at at block s).state at.goes_on in
            λ j. record { begun = bytes j; number = (reading-so j).number; goes_on = (reading-so j).goes_on; state = record { index = (reading-so j).index; lent = shows j } }

        pub still-places : length block' ≡ 512
        still-places = ap length t.bytes ∙ still one at.have at.number block rest (stage_at at block s).state places unfilled at.goes_on

        pub still-unfilled : at'.have < 512
        still-unfilled = subst⁻¹ (λ (k : ℕ). k < 512) (ap (λ (x : Reading). x.have) reading-so) (unfilled-so one at.have at.number block rest (stage_at at block s).state unfilled small at.goes_on)

        pub along-step : (later text : List ℕ) → text ≡ lines (from_stage work (stage_at at' block' s') (drop r.next piece ++ later)) → take r.written out' ++ text ≡ lines (from_stage work (stage_at at block s) (rest ++ later))
        along-step later text e =
            ap₂ (λ (x y : List ℕ). x ++ y) printed (e ∙ ap₂ (λ (x : Stage (RunState S)) (y : List ℕ). lines (from_stage work x (y ++ later))) staged left_over)
            ∙ sym (append_assoc p.text (from_stage work p.stage (drop p.used rest ++ later)).text (tail (from_stage work p.stage (drop p.used rest ++ later)).state.lent))
            ∙ sym (ap lines (one-step work (stage_at at block s) small rest later))

  pub over : (g : Stage (RunState S)) → g.goes_on ≡ false → (later : List ℕ) → lines (end_of_file work g) ≡ lines (from_stage work g later)
  unfolding from_stage end_of_file
  over g e later = ap lines (if-false _ _ (ap (λ (t : Bool). t && not (eqb (length g.begun) 0)) e)) ∙ sym (ap lines (if-false _ _ e))
