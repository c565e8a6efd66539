-- What a program writes that takes a call file a call at a time, along the pieces of one: the lines of the file's blocks, then its last ones. Assumes nothing.
use Prim.Native.Nat.{ℕ, ◌≤◌, ◌<◌}
use mathlib.Core.Path.{◌≡◌, sym, ap, ap₂, ◌∙◌, subst, subst⁻¹}
use mathlib.Core.Bool.{Bool, true, false, not, ◌&&◌}
use mathlib.Core.List.{List, [], ◌∷◌, ◌++◌, append_assoc}
use borrow.Author.Tests.{eq-eqb, le-leb}
use lib.Dec.{eqb}
use lib.ListN.{length, take, drop}
use lib.Seq.{take-append_seam, drop-drop}
use Rattle.definition.proofs.Tests.{if-false}
use Rattle.callfile.specs.Cutting.{cut_blocks, along_blocks, Stage, inARow}
use Rattle.callfile.proofs.Cutting.{from_stage, at-end}
use Rattle.running.specs.Running.{Doing}
use Rattle.running.specs.Files.{RunState, work_block, stage_at, heeding, took_as, rest_line}
use Rattle.running.proofs.Pieces.{small, ending}
use Rattle.running.proofs.Pieces as Pieces
use Rattle.stationrun.specs.declared.StationReading.{StationReading}
use Rattle.stationrun.specs.declared.StationTook.{StationTook}
use Rattle.stationrun.specs.CallSteps.{CallStep, step_file, step_roomy, with_run, CallTakes, TakesCallStep, none_read, WritesCalls, pieces-over, reading-over, piece-over, piece-step}
use Rattle.stationrun.proofs.CallsAlong.{from_call, one-step, bytes-stand, places-stay, bytes-few, over-so, part-so}

-- a program with these lines at the end for what it leaves; an M is what stands between two steps: the reading, the block, and what the program's buffers hold
module _ {S M : Type 0} (one : Doing S) (tail : S → List ℕ) (at : M → StationReading) (block : M → List ℕ) (shown : M → S) where
  abbrev stage : M → Stage (RunState S)
  stage m = stage_at (at m).reading (block m) (shown m)

  -- the lines from here on, with these bytes to come
  abbrev lines : ℕ → Stage (RunState S) → List ℕ → List ℕ
  lines run g later = Pieces.lines one tail (from_call one run g later)

  -- the block has its places, and no more bytes
  pub record Fills (m : M) : Type 0 where
    pub places : length (block m) ≡ 512
    pub filled : (at m).reading.have ≤ 512

  -- ---- the end

  -- no piece is left
  no_more : (m : M) → Fills m → (at m).reading.have < 512 → rest_line (at m).reading false ++ tail (shown m) ≡ lines (at m).run (stage m) []
  no_more m h part =
      let few : length (take (at m).reading.have (block m)) < 512 = small one tail (at m).reading (block m) (shown m) h.places part in
      ending one tail (at m).reading (block m) (shown m) h.places part
      ∙ sym (ap (Pieces.lines one tail) (part-so one (at m).run (stage m) [] few ∙ at-end (work_block one) (stage m) few))

  -- reading has ended
  no-reading : (m : M) → (at m).reading.goes_on ≡ false → (later : List ℕ) → rest_line (at m).reading false ++ tail (shown m) ≡ lines (at m).run (stage m) later
  unfolding rest_line
  no-reading m e later =
      ap (λ (x : List ℕ). x ++ tail (shown m)) (if-false _ _ (ap (λ (t : Bool). t && not (eqb (at m).reading.have 0)) e))
      ∙ sym (ap (Pieces.lines one tail) (over-so one (at m).run (stage m) e later))

  -- ---- a step

  module _ (most : ℕ) (m m' : M) (piece : List ℕ) (from : ℕ) (out out' : List ℕ) (r : StationTook) (Keeps : Bool → Type 0) (h : Fills m) (room : most ≤ length out)
      (t : TakesCallStep one most true (at m) piece from (shown m) (shown m') Keeps (block m) (block m') out out' r) (next : at m' ≡ r.reading)
    where
      abbrev rest : List ℕ
      rest = drop from piece

      abbrev goes : Bool
      goes = (at m).reading.goes_on

      abbrev p : CallStep S
      p = step_file one rest (at m).run (stage m)

      ok : step_roomy most (at m).reading (block m) out ≡ true
      ok = rw (eq-eqb (length (block m)) 512 h.places, le-leb (at m).reading.have 512 h.filled, le-leb most (length out) room)

      does : CallTakes S p goes (at m) rest from (shown m') Keeps (block m) (block m') out out' r
      does = subst (λ (x : Bool). CallTakes S (step_file one rest (at m).run (heeding x (stage m))) (x && goes) (at m) rest from (shown m') Keeps (block m) (block m') out out' r) ok t

      answer : r ≡ with_run (took_as goes (at m).reading from p.taken) p.run
      answer = does.stepped.took.answer

      reading-so : at m' ≡ (with_run (took_as goes (at m).reading from p.taken) p.run).reading
      reading-so = next ∙ ap (λ (x : StationTook). x.reading) answer

      printed : take r.written out' ≡ p.taken.text
      printed = ap₂ (λ (k : ℕ) (x : List ℕ). take k x) (ap (λ (x : StationTook). x.written) answer) does.stepped.took.text ∙ take-append_seam p.taken.text (drop (length p.taken.text) out)

      left_over : drop r.next piece ≡ drop p.taken.used rest
      left_over = ap (λ (x : StationTook). drop x.next piece) answer ∙ sym (drop-drop p.taken.used from piece)

      staged : stage m' ≡ p.taken.stage
      staged =
          let bytes : take (at m').reading.have (block m') ≡ p.taken.stage.begun =
          ap₂ (λ (k : ℕ) (x : List ℕ). take k x) (ap (λ (x : StationReading). x.reading.have) reading-so) does.bytes
          ∙ bytes-stand one (at m).run (at m).reading (block m) rest (shown m) h.places h.filled goes in
          λ j. record { begun = bytes j; number = (reading-so j).reading.number; goes_on = (reading-so j).reading.goes_on; state = record { index = (reading-so j).reading.index; lent = does.stepped.shows j } }

      still : Fills m'
      still = record {
        places = ap length does.bytes ∙ places-stay one (at m).run (at m).reading (block m) rest (shown m) h.places h.filled goes;
        filled = subst⁻¹ (λ (x : StationReading). x.reading.have ≤ 512) reading-so (bytes-few one (at m).run (at m).reading (block m) rest (shown m) h.places h.filled goes);
      }

      steps : (later text : List ℕ) → text ≡ lines (at m').run (stage m') (drop r.next piece ++ later) → take r.written out' ++ text ≡ lines (at m).run (stage m) (rest ++ later)
      steps later text e =
          let d = from_call one p.run p.taken.stage (drop p.taken.used rest ++ later) in
          ap₂ (λ (x y : List ℕ). x ++ y) printed (e ∙ (λ j. lines (reading-so j).run (staged j) (left_over j ++ later)))
          ∙ sym (append_assoc p.taken.text d.text (tail d.state.lent))
          ∙ sym (ap (Pieces.lines one tail) (one-step one (at m).run (stage m) rest later))

  -- ---- all pieces: where what is Ready is so after a step, and then the step and the end are as they are said to be

  module _ (most : ℕ) (Step : M → M → List ℕ → ℕ → List ℕ → List ℕ → StationTook → Type 0) (last : ℕ) (End : M → List ℕ → ℕ → List ℕ → Type 0) (Ready : M → Type 0) (Keeps : M → M → Bool → Type 0)
      (does-step : (m m' : M) (piece : List ℕ) (from : ℕ) (out out' : List ℕ) (r : StationTook) → Ready m → Step m m' piece from out out' r → TakesCallStep one most true (at m) piece from (shown m) (shown m') (Keeps m m') (block m) (block m') out out' r)
      (stays : (m m' : M) (changed : Bool) → Ready m → Keeps m m' changed → Ready m')
      (does-end : (m : M) (out out' : List ℕ) (r : ℕ) → Ready m → last ≤ length out → End m out r out' → take r out' ≡ rest_line (at m).reading false ++ tail (shown m))
    where
      along : (pieces : List (List ℕ)) (m : M) (text : List ℕ) → WritesCalls at most Step last End pieces m text → Ready m → Fills m → text ≡ lines (at m).run (stage m) (inARow pieces)
      along pieces m text (pieces-over out out' r e part room p) h f =
          does-end m out out' r h room p ∙ no_more m f part ∙ sym (ap (λ (x : List (List ℕ)). lines (at m).run (stage m) (inARow x)) e)
      along pieces m text (reading-over out out' r e room p) h f =
          does-end m out out' r h room p ∙ no-reading m e (inARow pieces)
      along pieces m text (piece-over {pieces = ps} w) h f = along ps m text w h f
      along pieces m text (piece-step {rest = l} {pieces = ps} {m' = m'} {text = u} piece from out out' r e room t n w) h f =
          let k = does-step m m' piece from out out' r h t in
          steps most m m' piece from out out' r (Keeps m m') f room k n (inARow ps) u (along (drop r.next piece ∷ ps) m' u w (stays m m' _ h k.stepped.left) (still most m m' piece from out out' r (Keeps m m') f room k n))
          ∙ ap (λ (x : List ℕ). lines (at m).run (stage m) (x ++ inARow ps)) (sym e)

      -- from the first byte on
      pub writes-file : (m : M) → at m ≡ none_read → Ready m → Fills m → (pieces : List (List ℕ)) (text : List ℕ) → WritesCalls at most Step last End pieces m text
          → text ≡ Pieces.lines one tail (along_blocks (work_block one) (cut_blocks (inARow pieces)) 0 (record { index = 0; lent = shown m }))
      unfolding from_stage from_call
      writes-file m e h f pieces text w = along pieces m text w h f ∙ ap (λ (x : StationReading). lines x.run (stage_at x.reading (block m) (shown m)) (inARow pieces)) e
