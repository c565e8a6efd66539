-- A step on a piece, of any program that does the calls of a block one after another. Assumes nothing.
use Prim.Native.Nat.{ℕ, ◌+◌, ◌-◌, ◌≤◌, ◌<◌}
use native.Mathlib.Omega.{arith}
use mathlib.Core.Path.{◌≡◌, refl, sym, ap, ap₂, ◌∙◌, subst⁻¹}
use mathlib.Core.Bool.{Bool, true, false, not, ◌&&◌, true≢false}
use mathlib.Core.List.{List, [], ◌++◌}
use borrow.Author.Tests.{eqb-true, ltb-true, leb-true, lt-ltb, le-ltb, eq-eqb, ne_eqb}
use lib.Dec.{eqb, ltb, leb}
use lib.ListN.{length, take, drop, length-append, length-take, length-drop}
use lib.Seq.{length-take-le, take_all}
use Rattle.definition.proofs.Tests.{by-test, if-true, if-false, and_left, and_right}
use Rattle.stats.specs.Counted.{more}
use Rattle.callfile.specs.declared.Reading.{Reading}
use Rattle.callfile.specs.declared.Took.{Took}
use Rattle.callfile.specs.Cutting.{Stage, StepTaken, lacked, with_bytes, take_piece, Filled}
use Rattle.callfile.proofs.Cutting.{step-uses}
use Rattle.callfile.proofs.Filling.{filled-length, filled-bytes}
use Rattle.running.specs.declared.Ran.{Ran}
use Rattle.running.specs.Running.{Run, Doing, each_of_block, Printed}
use Rattle.running.specs.Files.{RunState, after_run, work_block, roomy, step_changed, block_as, unread_as, begun_as, TookStep}

-- ---- the tests

module _ (most block have out : ℕ) where
  pub no_block : (block ≡ 512 → ⊥) → false ≡ (eqb block 512 && (ltb have 512 && leb most out))
  no_block h = rw (ne_eqb block 512 h)

  pub whole-block : block ≡ 512 → 512 ≤ have → false ≡ (eqb block 512 && (ltb have 512 && leb most out))
  whole-block e h = rw (eq-eqb block 512 e, le-ltb have 512 h)

  pub by-text : block ≡ 512 → have < 512 → leb most out ≡ (eqb block 512 && (ltb have 512 && leb most out))
  by-text e h = rw (eq-eqb block 512 e, lt-ltb have 512 h)

-- what they say together
module _ (most : ℕ) (at : Reading) (block out : List ℕ) (e : roomy most at block out ≡ true) where
  pub fits-block : length block ≡ 512
  fits-block = eqb-true (length block) 512 (and_left (eqb (length block) 512) (ltb at.have 512 && leb most (length out)) e)

  others : (ltb at.have 512 && leb most (length out)) ≡ true
  others = and_right (eqb (length block) 512) (ltb at.have 512 && leb most (length out)) e

  pub unfilled-block : at.have < 512
  unfilled-block = ltb-true at.have 512 (and_left (ltb at.have 512) (leb most (length out)) others)

  pub text-room : most ≤ length out
  text-room = leb-true most (length out) (and_right (ltb at.have 512) (leb most (length out)) others)

-- ---- a step

module _ {S : Type 0} (one : Doing S) (at : Reading) (piece : List ℕ) (from : ℕ) (s : S) (block out : List ℕ) where
  abbrev rest : List ℕ
  rest = drop from piece

  -- the stage, where reading goes on or not
  abbrev g : Bool → Stage (RunState S)
  g goes = record { begun = take at.have block; number = at.number; goes_on = goes; state = record { index = at.index; lent = s } }

  -- what a step gives: whether a call was accepted, and what is left
  pub record Steps (goes changed : Bool) (s' : S) (block' out' : List ℕ) (r : Took) : Type 0 where
    pub taken : TookStep S (take_piece (work_block one) rest (g goes)) goes at rest from block block' out out' r
    pub leaves : (take_piece (work_block one) rest (g goes)).stage.state.lent ≡ s'
    pub changes : step_changed one rest (g goes) ≡ changed

  pub not-read : (goes : Bool) → goes ≡ false → {r : Took} → r ≡ unread_as at from (length piece) → Steps goes false s block out r
  unfolding take_piece step_changed unread_as
  not-read true e q = absurd (true≢false e)
  not-read false e q = record {
    taken = record {
      answer = q ∙ (λ j. record { reading = record { have = at.have; number = at.number; index = at.index; goes_on = false }; next = from + sym (length-drop from piece) j; written = 0 });
      bytes = refl;
      text = refl;
    };
    leaves = refl;
    changes = refl;
  }

  none-taken : (goes : Bool) → goes ≡ false → 0 < length rest → 0 < (take_piece (work_block one) rest (g goes)).used
  unfolding take_piece
  none-taken goes e h = subst⁻¹ (λ (x : StepTaken (RunState S)). 0 < x.used) (if-false _ _ e) h

  -- a step on a piece that is not used up goes on in it
  pub moves-on : (goes : Bool) → (goes ≡ true → at.have < 512) → {block' out' : List ℕ} {r : Took} → TookStep S (take_piece (work_block one) rest (g goes)) goes at rest from block block' out out' r → from < length piece → from < r.next
  moves-on goes small {r = r} t h =
      let left_over : 0 < length rest = omega (arith, length-drop from piece) in
      let more-used : 0 < (take_piece (work_block one) rest (g goes)).used = by-test goes
      (λ e. step-uses (work_block one) (g goes) (omega (arith, small e, length-take at.have block)) rest left_over)
      (λ e. none-taken goes e left_over) in
      omega (arith, ap (λ (x : Took). x.next) t.answer, more-used)

  module _ (fits : length block ≡ 512) (unfilled : at.have < 512) (n : ℕ) (block' : List ℕ) (f : Filled at.have rest block n block') where
    abbrev now : List ℕ
    now = take at.have block ++ lacked (take at.have block) rest

    pub had : length (take at.have block) ≡ at.have
    had = length-take-le at.have block (omega arith)

    same_bytes : lacked (take at.have block) rest ≡ take (length block - at.have) rest
    same_bytes = ap₂ (λ (x y : ℕ). take (x - y) rest) (sym fits) had

    pub took : n ≡ length (lacked (take at.have block) rest)
    took = f.count ∙ ap length (sym same_bytes)

    pub now-length : length now ≡ at.have + n
    now-length = length-append (take at.have block) (lacked (take at.have block) rest) ∙ ap₂ (λ (x y : ℕ). x + y) had (sym took)

    stands : take (at.have + n) block' ≡ now
    stands = filled-bytes (omega arith) f ∙ ap (λ (x : List ℕ). take at.have block ++ x) (sym same_bytes)

    still : length block' ≡ 512
    still = filled-length (omega arith) f ∙ fits

    pub bytes-so : block' ≡ block_as true at.have rest block
    bytes-so = f.bytes ∙ ap₂ (λ (x : List ℕ) (k : ℕ). take at.have block ++ (x ++ drop (at.have + k) block)) (sym same_bytes) took

    pub few : at.have + n ≤ 512
    few = omega (arith, f.count, length-take (length block - at.have) rest)

    -- the block is not whole yet
    module _ (part : at.have + n < 512) where
      abbrev kept_on : StepTaken (RunState S)
      kept_on = record { text = []; used = length (lacked (take at.have block) rest); stage = record { begun = now; number = at.number; goes_on = true; state = record { index = at.index; lent = s } } }

      part-test : ltb (length now) 512 ≡ true
      part-test = lt-ltb (length now) 512 (omega (arith, now-length))

      part_step : take_piece (work_block one) rest (g true) ≡ kept_on
      unfolding take_piece with_bytes
      part_step = if-true _ _ part-test

      part-quiet : step_changed one rest (g true) ≡ false
      unfolding step_changed
      part-quiet = ap (λ (t : Bool). not t && (each_of_block one now at.index at.number s).changed) part-test

      part-read : Steps true false s block' out (record { reading = record { have = at.have + n; number = at.number; index = at.index; goes_on = true }; next = from + n; written = 0 })
      part-read = record {
        taken = subst⁻¹ (λ (p : StepTaken (RunState S)). TookStep S p true at rest from block block' out out (record { reading = record { have = at.have + n; number = at.number; index = at.index; goes_on = true }; next = from + n; written = 0 })) part_step (record {
          answer = λ j. record { reading = record { have = sym now-length j; number = at.number; index = at.index; goes_on = true }; next = from + took j; written = 0 };
          bytes = bytes-so;
          text = refl;
        });
        leaves = ap (λ (p : StepTaken (RunState S)). p.stage.state.lent) part_step;
        changes = part-quiet;
      }

    -- it is whole
    module _ (whole : 512 ≤ at.have + n) (out' : List ℕ) (q : Ran) (ran : Printed S (each_of_block one block' at.index at.number s) out out' q) where
      abbrev run : Run S
      run = each_of_block one block' at.index at.number s

      abbrev takes : Run S → StepTaken (RunState S)
      takes y = record { text = y.text; used = length (lacked (take at.have block) rest); stage = record { begun = []; number = more at.number; goes_on = y.goes_on; state = after_run y } }

      now-block : now ≡ block'
      now-block = sym stands ∙ take_all (at.have + n) block' (omega (arith, still))

      whole-test : ltb (length now) 512 ≡ false
      whole-test = le-ltb (length now) 512 (omega (arith, now-length))

      whole-step : take_piece (work_block one) rest (g true) ≡ takes run
      unfolding take_piece with_bytes work_block
      whole-step = if-false _ _ whole-test
          ∙ ap (λ (x : List ℕ). takes (each_of_block one x at.index at.number s)) now-block

      whole-changed : step_changed one rest (g true) ≡ run.changed
      unfolding step_changed
      whole-changed = ap₂ (λ (t : Bool) (x : List ℕ). not t && (each_of_block one x at.index at.number s).changed) whole-test now-block

      whole-read : {number : ℕ} → number ≡ more at.number → Steps true run.changed run.lent block' out' (record { reading = record { have = 0; number = number; index = q.index; goes_on = q.goes_on }; next = from + n; written = q.written })
      whole-read {number} e = record {
        taken = subst⁻¹ (λ (p : StepTaken (RunState S)). TookStep S p true at rest from block block' out out' (record { reading = record { have = 0; number = number; index = q.index; goes_on = q.goes_on }; next = from + n; written = q.written })) whole-step (record {
          answer = λ j. record { reading = record { have = 0; number = e j; index = ran.index j; goes_on = ran.goes_on j }; next = from + took j; written = ran.written j };
          bytes = bytes-so;
          text = ran.text;
        });
        leaves = ap (λ (p : StepTaken (RunState S)). p.stage.state.lent) whole-step;
        changes = whole-changed;
      }

    pub reads-part : (goes : Bool) → goes ≡ true → at.have + n < 512 → {r : Took} → r ≡ begun_as at (at.have + n) (from + n) → Steps goes false s block' out r
    reads-part goes t h {r} e = subst⁻¹ (λ (x : Bool). Steps x false s block' out r) t (subst⁻¹ (λ (x : Took). Steps true false s block' out x) e (part-read h))

    pub reads_whole : (goes : Bool) → goes ≡ true → 512 ≤ at.have + n → (out' : List ℕ) (q : Ran) → Printed S (each_of_block one block' at.index at.number s) out out' q
        → (number : ℕ) → number ≡ more at.number
        → Steps goes (each_of_block one block' at.index at.number s).changed (each_of_block one block' at.index at.number s).lent block' out' (record { reading = record { have = 0; number = number; index = q.index; goes_on = q.goes_on }; next = from + n; written = q.written })
    reads_whole goes t h out' q ran number e = subst⁻¹ (λ (x : Bool). Steps x (each_of_block one block' at.index at.number s).changed (each_of_block one block' at.index at.number s).lent block' out' (record { reading = record { have = 0; number = number; index = q.index; goes_on = q.goes_on }; next = from + n; written = q.written })) t (whole-read h out' q ran e)
