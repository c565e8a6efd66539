-- Along a file taken a call at a time, of any program: a step prints the first of what is to come. Assumes nothing.
use Prim.Native.Nat.{ℕ, suc, ◌+◌, ◌-◌, ◌≤◌, ◌<◌}
use native.Mathlib.Omega.{arith}
use mathlib.Core.Path.{◌≡◌, refl, sym, ap, ap₂, ◌∙◌}
use mathlib.Core.Bool.{Bool, true, false}
use mathlib.Core.List.{List, [], ◌++◌, append_assoc}
use borrow.Author.Tests.{ltb-true, ltb-false, leb-true, leb-false, lt-leb, lt-ltb}
use lib.Dec.{ltb, leb}
use lib.ListN.{length, take, drop, length-append, length-take, length-drop}
use lib.Seq.{length-take-le, take-append_seam}
use Rattle.definition.specs.Base.{whether◌then◌else◌}
use Rattle.definition.proofs.Tests.{by-test, by-if, if-true, if-false}
use Rattle.stats.specs.Counted.{more}
use Rattle.callfile.specs.declared.Reading.{Reading}
use Rattle.callfile.specs.Blocks.{calls_in, call_at}
use Rattle.callfile.specs.Lines.{bad_line}
use Rattle.callfile.specs.Cutting.{Did, Work, silent, printed_before, Stage, StepTaken, lacked, with_bytes, take_piece}
use Rattle.callfile.proofs.Cutting.{from_stage}
use Rattle.callfile.proofs.Cutting as Cutting
use Rattle.running.specs.Running.{Run, Turned, Doing, block_calls, followed_run, ends, each_call, each_of_block}
use Rattle.running.specs.Files.{RunState, after_run, work_block, block_as}
use Rattle.running.proofs.Blocks.{run-next, none_left, bad-is, good-is}
use Rattle.stationrun.specs.CallSteps.{CallStep, no_call, did_call, block_has, call_done, block_over, next_call, step_file}

module _ {S : Type 0} (one : Doing S) where
  abbrev work : Work (RunState S)
  work = work_block one

  -- the calls of a block that is whole, from one on
  unfoldable pub calls_from : ℕ → List ℕ → ℕ → ℕ → S → Run S
  calls_from run block index number s =
      let count = calls_in block (length block) in
      whether leb count run then ends (bad_line number) index s else each_call one (block_calls run (count - run) block) index s

  -- then the other blocks
  abbrev before : Run S → ℕ → List ℕ → Did (RunState S)
  before q number later = printed_before q.text (from_stage work (record { begun = []; number = more number; goes_on = q.goes_on; state = after_run q }) later)

  -- what is to come, with these bytes
  unfoldable pub from_call : ℕ → Stage (RunState S) → List ℕ → Did (RunState S)
  from_call run g later =
      whether g.goes_on then (whether ltb (length g.begun) 512 then from_stage work g later else before (calls_from run g.begun g.state.index g.number g.state.lent) g.number later)
      else silent false g.state

  -- from the first call on, a block
  all-calls : (block : List ℕ) (index number : ℕ) (s : S) → each_of_block one block index number s ≡ calls_from 0 block index number s
  unfolding calls_from
  all-calls block index number s = by-test (leb (calls_in block (length block)) 0)
      (λ e. let z : calls_in block (length block) ≡ 0 = omega (arith, leb-true (calls_in block (length block)) 0 e) in
      bad-is one block (calls_in block (length block)) index number s refl z ∙ sym (if-true _ _ e))
      (λ e. let z : 0 < calls_in block (length block) = leb-false (calls_in block (length block)) 0 e in
      let m : calls_in block (length block) ≡ calls_in block (length block) - 0 = omega arith in
      sym (good-is one block (calls_in block (length block)) index number s refl (λ x. omega (arith, x, z)))
      ∙ ap (λ (n : ℕ). each_call one (block_calls 0 n block) index s) m ∙ sym (if-false _ _ e))

  module _ (begun : List ℕ) (number index : ℕ) (s : S) (run : ℕ) where
    abbrev g : Bool → Stage (RunState S)
    g goes = record { begun = begun; number = number; goes_on = goes; state = record { index = index; lent = s } }

    abbrev After : CallStep S → List ℕ → List ℕ → Did (RunState S)
    After p rest later = printed_before p.taken.text (from_call p.run p.taken.stage (drop p.taken.used rest ++ later))

    -- ---- bytes for a block that is not whole

    module _ (small : length begun < 512) (part : ltb (length begun) 512 ≡ true) (rest later : List ℕ) where
      abbrev block : List ℕ
      block = begun ++ lacked begun rest

      abbrev to-come : List ℕ
      to-come = drop (length (lacked begun rest)) rest ++ later

      abbrev following : StepTaken (RunState S) → Did (RunState S)
      following p = printed_before p.text (from_stage work p.stage (drop p.used rest ++ later))

      filled : CallStep S
      filled = no_call [] (length (lacked begun rest)) (block_has block (g true)) 0

      fills-part : ltb (length block) 512 ≡ true → following (take_piece work rest (g true)) ≡ After filled rest later
      unfolding from_call take_piece with_bytes filled
      fills-part e = ap following (if-true _ _ e) ∙ sym (if-true _ _ e)

      fills-whole : ltb (length block) 512 ≡ false → following (take_piece work rest (g true)) ≡ After filled rest later
      unfolding from_call take_piece with_bytes work_block filled
      fills-whole e =
          ap following (if-false _ _ e)
          ∙ ap (λ (q : Run S). before q number to-come) (all-calls block index number s)
          ∙ sym (if-false _ _ e)

      fill_step : from_call run (g true) (rest ++ later) ≡ After (step_file one rest run (g true)) rest later
      unfolding from_call step_file filled
      fill_step =
          if-true _ _ part
          ∙ Cutting.one-step work (g true) small rest later
          ∙ by-test (ltb (length block) 512) fills-part fills-whole
          ∙ sym (ap (λ (p : CallStep S). After p rest later) (if-true _ _ part))

    -- ---- a call of one that is

    module _ (whole : ltb (length begun) 512 ≡ false) (rest later : List ℕ) where
      abbrev count : ℕ
      count = calls_in begun (length begun)

      abbrev t : Turned S
      t = one index (call_at run begun) s

      none-there : leb count run ≡ true → before (calls_from run begun index number s) number (rest ++ later) ≡ After (next_call one run (g true)) rest later
      unfolding from_call calls_from next_call from_stage
      none-there e = ap (λ (q : Run S). before q number (rest ++ later)) (if-true _ _ e) ∙ sym (ap (λ (p : CallStep S). After p rest later) (if-true _ _ e))

      module _ (there : leb count run ≡ false) where
        left_over : run < count
        left_over = leb-false count run there

        next : calls_from run begun index number s ≡ followed_run t.text t.changed (each_call one (block_calls (run + 1) (count - (run + 1)) begun) (more index) t.lent)
        unfolding calls_from
        next =
            let e : count - run ≡ suc (count - (run + 1)) = omega (arith, left_over) in
            if-false _ _ there ∙ run-next one begun run (count - (run + 1)) (count - run) index s e

        module _ (e : ltb (run + 1) count ≡ true) where
          abbrev others : Run S
          others = calls_from (run + 1) begun (more index) number t.lent

          abbrev rest_of : Did (RunState S)
          rest_of = from_stage work (record { begun = []; number = more number; goes_on = others.goes_on; state = after_run others }) (rest ++ later)

          later-calls : others ≡ each_call one (block_calls (run + 1) (count - (run + 1)) begun) (more index) t.lent
          unfolding calls_from
          later-calls = if-false _ _ (lt-leb count (run + 1) (ltb-true (run + 1) count e))

          goes_on : before (calls_from run begun index number s) number (rest ++ later) ≡ After (next_call one run (g true)) rest later
          unfolding from_call next_call
          goes_on =
              ap (λ (q : Run S). before q number (rest ++ later)) (next ∙ ap (followed_run t.text t.changed) (sym later-calls))
              ∙ (λ j. record { text = append_assoc t.text others.text rest_of.text j; goes_on = rest_of.goes_on; state = rest_of.state })
              ∙ ap (printed_before t.text) (sym (if-false _ _ whole))
              ∙ sym (ap (λ (p : CallStep S). After p rest later) (if-false _ _ there ∙ if-true _ _ e))

        was-last : ltb (run + 1) count ≡ false → before (calls_from run begun index number s) number (rest ++ later) ≡ After (next_call one run (g true)) rest later
        unfolding from_call next_call
        was-last e =
            let z : count - (run + 1) ≡ 0 = omega (arith, ltb-false (run + 1) count e) in
            ap (λ (q : Run S). before q number (rest ++ later)) (none_left one begun (calls_from run begun index number s) t.text t.changed (run + 1) (count - (run + 1)) (more index) t.lent z next)
            ∙ sym (ap (λ (p : CallStep S). After p rest later) (if-false _ _ there ∙ if-false _ _ e))

      call_step : from_call run (g true) (rest ++ later) ≡ After (step_file one rest run (g true)) rest later
      unfolding from_call step_file
      call_step =
          if-false _ _ whole
          ∙ by-test (leb count run) none-there (λ e. by-test (ltb (run + 1) count) (goes_on e) (was-last e))
          ∙ sym (ap (λ (p : CallStep S). After p rest later) (if-false _ _ whole))

    steps : (rest later : List ℕ) (goes : Bool) → from_call run (g goes) (rest ++ later) ≡ After (step_file one rest run (g goes)) rest later
    unfolding from_call step_file
    steps rest later false = refl
    steps rest later true = by-test (ltb (length begun) 512)
        (λ e. fill_step (ltb-true (length begun) 512 e) e rest later)
        (λ e. call_step e rest later)

  -- a step takes bytes from what is to come, or does the first call of it
  pub one-step : (run : ℕ) (g : Stage (RunState S)) (rest later : List ℕ) → let p = step_file one rest run g in from_call run g (rest ++ later) ≡ printed_before p.taken.text (from_call p.run p.taken.stage (drop p.taken.used rest ++ later))
  one-step run g rest later = steps g.begun g.number g.state.index g.state.lent run rest later g.goes_on

  -- ---- the end

  pub part-so : (run : ℕ) (g : Stage (RunState S)) (later : List ℕ) → length g.begun < 512 → from_call run g later ≡ from_stage work g later
  unfolding from_call from_stage
  part-so run g later h = by-test g.goes_on
      (λ e. if-true _ _ e ∙ if-true _ _ (lt-ltb (length g.begun) 512 h))
      (λ e. if-false _ _ e ∙ sym (if-false _ _ e))

  pub over-so : (run : ℕ) (g : Stage (RunState S)) → g.goes_on ≡ false → (later : List ℕ) → from_call run g later ≡ silent false g.state
  unfolding from_call
  over-so run g e later = if-false _ _ e

  -- ---- the block

  module _ (run : ℕ) (at : Reading) (block rest : List ℕ) (s : S) (places : length block ≡ 512) (filled : at.have ≤ 512) where
    abbrev p : Bool → StepTaken (RunState S)
    p goes = (step_file one rest run (record { begun = take at.have block; number = at.number; goes_on = goes; state = record { index = at.index; lent = s } })).taken

    abbrev block' : Bool → List ℕ
    block' goes = block_as goes at.have rest block

    had : length (take at.have block) ≡ at.have
    had = length-take-le at.have block (omega arith)

    abbrev new : List ℕ
    new = lacked (take at.have block) rest

    few : length new ≤ 512 - at.have
    few = omega (arith, had, length-take (512 - length (take at.have block)) rest)

    pub places-stay : (goes : Bool) → length (block' goes) ≡ 512
    places-stay false = places
    places-stay true =
        length-append (take at.have block) (new ++ drop (at.have + length new) block)
        ∙ ap₂ (λ (x y : ℕ). x + y) had (length-append new (drop (at.have + length new) block))
        ∙ (let e : at.have + (length new + length (drop (at.have + length new) block)) ≡ 512 = omega (arith, few, length-drop (at.have + length new) block) in e)

    -- the bytes that stand in it are those of the stage
    record Stands (x : StepTaken (RunState S)) : Type 0 where
      pub bytes : take (length x.stage.begun) (block' true) ≡ x.stage.begun
      pub small : length x.stage.begun ≤ 512

    now-stands : take (length (take at.have block ++ new)) (block' true) ≡ take at.have block ++ new
    now-stands = ap (take (length (take at.have block ++ new))) (sym (append_assoc (take at.have block) new (drop (at.have + length new) block))) ∙ take-append_seam (take at.have block ++ new) (drop (at.have + length new) block)

    abbrev g₁ : Stage (RunState S)
    g₁ = record { begun = take at.have block; number = at.number; goes_on = true; state = record { index = at.index; lent = s } }

    abbrev t₁ : Turned S
    t₁ = one at.index (call_at run (take at.have block)) s

    stands : Stands (p true)
    unfolding step_file next_call
    stands = by-if (λ (x : CallStep S). Stands x.taken) (ltb (length (take at.have block)) 512) (no_call [] (length new) (block_has (take at.have block ++ new) g₁) 0) (next_call one run g₁)
        (λ _. record { bytes = now-stands; small = omega (arith, length-append (take at.have block) new, had, few) })
        (λ _. by-if (λ (x : CallStep S). Stands x.taken) (leb (calls_in (take at.have block) (length (take at.have block))) run) (no_call (bad_line at.number) 0 (block_over false g₁) 0) (whether ltb (run + 1) (calls_in (take at.have block) (length (take at.have block))) then did_call t₁ (call_done t₁ g₁) (run + 1) else did_call t₁ (block_over true (call_done t₁ g₁)) 0)
        (λ _. record { bytes = refl; small = omega arith })
        (λ _. by-if (λ (x : CallStep S). Stands x.taken) (ltb (run + 1) (calls_in (take at.have block) (length (take at.have block)))) (did_call t₁ (call_done t₁ g₁) (run + 1)) (did_call t₁ (block_over true (call_done t₁ g₁)) 0)
        (λ _. record { bytes = take-append_seam (take at.have block) (new ++ drop (at.have + length new) block); small = omega (arith, had) })
        (λ _. record { bytes = refl; small = omega arith })))

    pub bytes-stand : (goes : Bool) → take (whether goes then length (p goes).stage.begun else at.have) (block' goes) ≡ (p goes).stage.begun
    unfolding step_file
    bytes-stand false = refl
    bytes-stand true = stands.bytes

    pub bytes-few : (goes : Bool) → (whether goes then length (p goes).stage.begun else at.have) ≤ 512
    bytes-few false = filled
    bytes-few true = stands.small
