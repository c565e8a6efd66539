-- A step of a call file taken a call at a time, of any program. Assumes nothing.
use Prim.Native.Nat.{ℕ, ◌+◌, ◌*◌, ◌-◌, ◌≤◌, ◌<◌}
use native.Mathlib.Nat.{add-zero}
use native.Mathlib.Omega.{arith}
use mathlib.Core.Path.{◌≡◌, refl, sym, ap, ap₂, ◌∙◌, subst⁻¹}
use mathlib.Core.Bool.{Bool, true, false, ◌&&◌, ◌||◌, true≢false}
use mathlib.Core.List.{List, [], ◌++◌, append-nil}
use borrow.Author.Tests.{eqb-true, leb-true, leb-false, ltb-true, ltb-false, eq-eqb, ne_eqb, lt-ltb, le-ltb, le-leb, lt-leb}
use lib.Dec.{eqb, ltb, leb}
use lib.ListN.{length, take, drop, length-take, length-drop, drop_of_length-le}
use lib.Seq.{length-take-le, take_all}
use Rattle.definition.specs.Base.{whether◌then◌else◌}
use Rattle.definition.proofs.Tests.{by-if, by-test, if-true, if-false, and_left, and_right}
use Rattle.stats.specs.Counted.{more}
use Rattle.calls.specs.declared.Call.{Call}
use Rattle.callfile.specs.declared.Reading.{Reading}
use Rattle.callfile.specs.declared.Took.{Took}
use Rattle.callfile.specs.Blocks.{calls_in, call_at}
use Rattle.callfile.specs.Cutting.{Stage, lacked, Filled}
use Rattle.callfile.specs.Lines.{bad_line}
use Rattle.callfile.specs.Placed.{Puts, PutLine}
use Rattle.callfile.proofs.Checks.{calls-few}
use Rattle.callfile.proofs.Digits.{bad-length}
use Rattle.callfile.proofs.Parts.{line-puts}
use Rattle.callfile.proofs.Texts.{first_next, first-text}
use Rattle.running.specs.Running.{Turned, Doing}
use Rattle.running.specs.Files.{RunState, took_as, block_as, unread_as, begun_as}
use Rattle.running.proofs.Steps.{had, now-length, bytes-so, few}
use Rattle.running.proofs.Steps as Old
use Rattle.stationrun.specs.declared.StationReading.{StationReading}
use Rattle.stationrun.specs.declared.StationTook.{StationTook}
use Rattle.stationrun.specs.CallSteps.{CallStep, no_call, did_call, block_has, call_done, block_over, next_call, step_file, step_roomy, step_due, with_run, next_block, reading_after, ended_as, whole_at, TookCall, CallStepped, CallTakes, TakesCallStep}

-- ---- the tests

module _ (most block have out : ℕ) (on : Bool) where
  abbrev test : Bool
  test = (eqb block 512 && (leb have 512 && leb most out)) && on

  pub no_block : (block ≡ 512 → ⊥) → false ≡ test
  no_block h = rw (ne_eqb block 512 h)

  pub past-block : block ≡ 512 → 512 < have → false ≡ test
  past-block e h = rw (eq-eqb block 512 e, lt-leb have 512 h)

  pub no_text : block ≡ 512 → have ≤ 512 → out < most → false ≡ test
  no_text e h k = rw (eq-eqb block 512 e, le-leb have 512 h, lt-leb most out k)

  pub all_room : block ≡ 512 → have ≤ 512 → most ≤ out → on ≡ test
  all_room e h k = rw (eq-eqb block 512 e, le-leb have 512 h, le-leb most out k)

-- what they say together
module _ (most : ℕ) (fit : Bool) (at : Reading) (block out : List ℕ) (e : ((fit && step_roomy most at block out) && at.goes_on) ≡ true) where
  both : (fit && step_roomy most at block out) ≡ true
  both = and_left (fit && step_roomy most at block out) at.goes_on e

  pub is-fit : fit ≡ true
  is-fit = and_left fit (step_roomy most at block out) both

  roomy : step_roomy most at block out ≡ true
  roomy = and_right fit (step_roomy most at block out) both

  pub fits-block : length block ≡ 512
  fits-block = eqb-true (length block) 512 (and_left (eqb (length block) 512) (leb at.have 512 && leb most (length out)) roomy)

  others : (leb at.have 512 && leb most (length out)) ≡ true
  others = and_right (eqb (length block) 512) (leb at.have 512 && leb most (length out)) roomy

  pub fits-bytes : at.have ≤ 512
  fits-bytes = leb-true at.have 512 (and_left (leb at.have 512) (leb most (length out)) others)

  pub text-room : most ≤ length out
  text-room = leb-true most (length out) (and_right (leb at.have 512) (leb most (length out)) others)

-- whether a step is to be done
module _ (goes : Bool) (have from len : ℕ) where
  pub over : goes ≡ false → false ≡ (goes && (eqb have 512 || ltb from len))
  over e = rw e

  pub whole-due : goes ≡ true → have ≡ 512 → true ≡ (goes && (eqb have 512 || ltb from len))
  whole-due e h = rw (e, eq-eqb have 512 h)

  pub by_bytes : goes ≡ true → (have ≡ 512 → ⊥) → ltb from len ≡ (goes && (eqb have 512 || ltb from len))
  by_bytes e h = rw (e, ne_eqb have 512 h)

-- ---- the reading at the next block, after a call, and after a bad block

pub next-so : (at : StationReading) (index : ℕ) (on : Bool) {number : ℕ} → number ≡ more at.reading.number
    → ◌≡◌ {A = StationReading} (record { reading = record { have = 0; number = number; index = index; goes_on = on }; run = 0 }) (next_block at index on)
next-so at index on e = λ j. record { reading = record { have = 0; number = e j; index = index; goes_on = on }; run = 0 }

module _ (at : StationReading) (count : ℕ) {index : ℕ} (e : index ≡ more at.reading.index) where
  pub same_after : at.run + 1 < count → ◌≡◌ {A = StationReading} (record { reading = record { have = 512; number = at.reading.number; index = index; goes_on = true }; run = at.run + 1 }) (reading_after at count)
  same_after h =
      (λ j. record { reading = record { have = 512; number = at.reading.number; index = e j; goes_on = true }; run = at.run + 1 })
      ∙ sym (if-true _ _ (lt-ltb (at.run + 1) count h))

  pub next-after : {r : StationReading} → r ≡ next_block at index true → count ≤ at.run + 1 → r ≡ reading_after at count
  next-after f h = f ∙ ap (λ (i : ℕ). next_block at i true) e ∙ sym (if-false _ _ (le-ltb (at.run + 1) count h))

pub ended_so : (at : StationReading) (from written : ℕ) {x : StationReading} → x ≡ next_block at at.reading.index false → ◌≡◌ {A = StationTook} (record { reading = x; next = from; written = written }) (ended_as at from written)
ended_so at from written e = λ j. record { reading = e j; next = from; written = written }

-- ---- a call of a block that is whole

module _ {S : Type 0} (one : Doing S) (at : StationReading) (from : ℕ) (block : List ℕ) (s : S) (out : List ℕ) (count : ℕ) (counted : count ≡ calls_in block (length block)) (Keeps : Bool → Type 0) where
  abbrev whole : Stage (RunState S)
  whole = whole_at at block s

  abbrev q : CallStep S
  q = next_call one at.run whole

  -- there is none
  none_so : count ≤ at.run → q ≡ no_call (bad_line at.reading.number) 0 (block_over false whole) 0
  unfolding next_call
  none_so h = if-true _ _ (le-leb (calls_in block (length block)) at.run (omega (arith, counted)))

  pub none-there : count ≤ at.run → 128 ≤ length out → {n : ℕ} {out' : List ℕ} → PutLine 128 (bad_line at.reading.number) 0 out n out' → {r : StationTook} → r ≡ ended_as at from n → Keeps false → CallStepped S q true at from s Keeps out out' r
  none-there h room {n} {out'} l {r} e k =
      let put = line-puts (omega (arith, room)) (bad-length at.reading.number) l in
      subst⁻¹ (λ (x : CallStep S). CallStepped S x true at from s Keeps out out' r) (none_so h) (record {
        took = record {
          answer = e ∙ (λ j. record { reading = (ended_as at from n).reading; next = sym (add-zero from) j; written = first_next put j });
          text = first-text put (omega (arith, room, bad-length at.reading.number));
        };
        shows = refl;
        left = k;
      })

  -- there is one
  module _ (there : at.run < count) (fits : length block ≡ 512) (x : Call) (named : x ≡ call_at at.run block) (t : Turned S) (does : one at.reading.index x s ≡ t) where
    turned : one at.reading.index (call_at at.run block) s ≡ t
    turned = ap (λ (y : Call). one at.reading.index y s) (sym named) ∙ does

    goes_so : ltb (at.run + 1) count ≡ true → q ≡ did_call t (call_done t whole) (at.run + 1)
    unfolding next_call
    goes_so e =
        if-false _ _ (lt-leb (calls_in block (length block)) at.run (omega (arith, counted)))
        ∙ if-true _ _ (ap (ltb (at.run + 1)) (sym counted) ∙ e)
        ∙ ap (λ (y : Turned S). did_call y (call_done y whole) (at.run + 1)) turned

    over-so : ltb (at.run + 1) count ≡ false → q ≡ did_call t (block_over true (call_done t whole)) 0
    unfolding next_call
    over-so e =
        if-false _ _ (lt-leb (calls_in block (length block)) at.run (omega (arith, counted)))
        ∙ if-false _ _ (ap (ltb (at.run + 1)) (sym counted) ∙ e)
        ∙ ap (λ (y : Turned S). did_call y (block_over true (call_done y whole)) 0) turned

    pub call-done : {n : ℕ} {out' : List ℕ} → Puts t.text 0 out n out' → length t.text ≤ length out → {reading : StationReading} → reading ≡ reading_after at count → Keeps t.changed
        → CallStepped S q true at from t.lent Keeps out out' (record { reading = reading; next = from; written = n })
    call-done {n} {out'} puts room {reading} e k = by-test (ltb (at.run + 1) count)
        (λ y. subst⁻¹ (λ (z : CallStep S). CallStepped S z true at from t.lent Keeps out out' (record { reading = reading; next = from; written = n })) (goes_so y) (record {
          took = record {
            answer = λ j. record {
              reading = (e ∙ if-true _ _ y ∙ (λ i. record { reading = record { have = sym fits i; number = at.reading.number; index = more at.reading.index; goes_on = true }; run = at.run + 1 })) j;
              next = sym (add-zero from) j;
              written = first_next puts j;
            };
            text = first-text puts room;
          };
          shows = refl;
          left = k;
        }))
        (λ y. subst⁻¹ (λ (z : CallStep S). CallStepped S z true at from t.lent Keeps out out' (record { reading = reading; next = from; written = n })) (over-so y) (record {
          took = record {
            answer = λ j. record { reading = (e ∙ if-false _ _ y) j; next = sym (add-zero from) j; written = first_next puts j };
            text = first-text puts room;
          };
          shows = refl;
          left = k;
        }))

-- ---- a step

module _ {S : Type 0} (one : Doing S) (at : StationReading) (piece : List ℕ) (from : ℕ) (s : S) (block out : List ℕ) where
  abbrev rest : List ℕ
  rest = drop from piece

  abbrev have : ℕ
  have = at.reading.have

  -- the stage, where reading goes on or not
  abbrev g : Bool → Stage (RunState S)
  g goes = record { begun = take have block; number = at.reading.number; goes_on = goes; state = record { index = at.reading.index; lent = s } }

  abbrev p : Bool → CallStep S
  p goes = step_file one rest at.run (g goes)

  -- what a step gives
  abbrev Gives : Bool → S → (Bool → Type 0) → List ℕ → List ℕ → StationTook → Type 0
  Gives goes s' Keeps block' out' r = CallTakes S (p goes) goes at rest from s' Keeps block block' out out' r

  none_read : (goes : Bool) → goes ≡ false → {t : Took} {r : StationTook} → t ≡ unread_as at.reading from (length piece) → r ≡ with_run t at.run → (Keeps : Bool → Type 0) → Keeps false → Gives goes s Keeps block out r
  unfolding step_file unread_as
  none_read true e q w Keeps k = absurd (true≢false e)
  none_read false e q w Keeps k = record {
    stepped = record {
      took = record {
        answer = w ∙ ap (λ (t : Took). with_run t at.run) (q ∙ (λ j. record { reading = record { have = have; number = at.reading.number; index = at.reading.index; goes_on = false }; next = from + sym (length-drop from piece) j; written = 0 }));
        text = refl;
      };
      shows = refl;
      left = k;
    };
    bytes = refl;
  }

  module _ (fits : length block ≡ 512) where
    -- bytes for a block that is not whole
    module _ (unfilled : have < 512) (n : ℕ) (block' : List ℕ) (f : Filled have rest block n block') where
      abbrev now : List ℕ
      now = take have block ++ lacked (take have block) rest

      fills : p true ≡ no_call [] (length (lacked (take have block) rest)) (block_has now (g true)) 0
      unfolding step_file
      fills = if-true _ _ (lt-ltb (length (take have block)) 512 (omega (arith, had one at.reading piece from s block out fits unfilled n block' f)))

      bytes_read : (goes : Bool) → goes ≡ true → {t : Took} {r : StationTook} → t ≡ begun_as at.reading (have + n) (from + n) → r ≡ with_run t 0 → (Keeps : Bool → Type 0) → Keeps false → Gives goes s Keeps block' out r
      bytes_read false e q w Keeps k = absurd (true≢false (sym e))
      bytes_read true e {t} {r} q w Keeps k = record {
        stepped = subst⁻¹ (λ (x : CallStep S). CallStepped S x true at from s Keeps out out r) fills (record {
          took = record {
            answer = w ∙ ap (λ (x : Took). with_run x 0) (q ∙ (λ j. record {
              reading = record { have = sym (now-length one at.reading piece from s block out fits unfilled n block' f) j; number = at.reading.number; index = at.reading.index; goes_on = true };
              next = from + Old.took one at.reading piece from s block out fits unfilled n block' f j;
              written = 0;
            }));
            text = refl;
          };
          shows = refl;
          left = k;
        });
        bytes = bytes-so one at.reading piece from s block out fits unfilled n block' f;
      }

    -- a call of one that is
    module _ (full : 512 ≤ have) where
      all-bytes : take have block ≡ block
      all-bytes = take_all have block (omega arith)

      calls : p true ≡ next_call one at.run (whole_at at block s)
      unfolding step_file
      calls =
          if-false _ _ (le-ltb (length (take have block)) 512 (omega (arith, ap length all-bytes)))
          ∙ ap (λ (x : List ℕ). next_call one at.run (whole_at at x s)) all-bytes

      none-lacked : lacked (take have block) rest ≡ []
      none-lacked = ap (λ (k : ℕ). take k rest) (let e : 512 - length (take have block) ≡ 0 = omega (arith, ap length all-bytes) in e)

      same_block : block ≡ block_as true have rest block
      same_block =
          sym (ap₂ (λ (x y : List ℕ). x ++ y) all-bytes (ap (λ (x : List ℕ). x ++ drop (have + length x) block) none-lacked ∙ drop_of_length-le block {i = have + 0} (omega arith)) ∙ append-nil block)

      next-read : (goes : Bool) → goes ≡ true → {s' : S} {Keeps : Bool → Type 0} {out' : List ℕ} {r : StationTook} → CallStepped S (next_call one at.run (whole_at at block s)) true at from s' Keeps out out' r → Gives goes s' Keeps block out' r
      next-read false e t = absurd (true≢false (sym e))
      next-read true e {s'} {Keeps} {out'} {r} t = record {
        stepped = subst⁻¹ (λ (x : CallStep S). CallStepped S x true at from s' Keeps out out' r) calls t;
        bytes = same_block;
      }

-- no more bytes than are left
pub within-piece : (have from : ℕ) (piece block : List ℕ) {n : ℕ} {block' : List ℕ} → Filled have (drop from piece) block n block' → n ≤ length piece - from
within-piece have from piece block f = omega (arith, f.count, length-take (length block - have) (drop from piece), length-drop from piece)

-- by what the tests say
module _ {S : Type 0} (one : Doing S) (most : ℕ) (fit : Bool) (at : StationReading) (piece : List ℕ) (from : ℕ) (s : S) (block out : List ℕ) where
  abbrev goes : Bool
  goes = (fit && step_roomy most at.reading block out) && at.reading.goes_on

  pub not-read : goes ≡ false → {t : Took} {r : StationTook} → t ≡ unread_as at.reading from (length piece) → r ≡ with_run t at.run → (Keeps : Bool → Type 0) → Keeps false → TakesCallStep one most fit at piece from s s Keeps block block out out r
  not-read e = none_read one at piece from s block out goes e

  module _ (e : goes ≡ true) where
    fits : length block ≡ 512
    fits = fits-block most fit at.reading block out e

    pub few-read : at.reading.have < 512 → {n : ℕ} {block' : List ℕ} → Filled at.reading.have (drop from piece) block n block' → at.reading.have + n ≤ 512
    few-read h {n} {block'} f = few one at.reading piece from s block out fits h n block' f

    pub fill-read : at.reading.have < 512 → {n : ℕ} {block' : List ℕ} → Filled at.reading.have (drop from piece) block n block'
        → {t : Took} {r : StationTook} → t ≡ begun_as at.reading (at.reading.have + n) (from + n) → r ≡ with_run t 0 → (Keeps : Bool → Type 0) → Keeps false → TakesCallStep one most fit at piece from s s Keeps block block' out out r
    fill-read h {n} {block'} f = bytes_read one at piece from s block out fits h n block' f goes e

    pub call-read : 512 ≤ at.reading.have → {s' : S} {Keeps : Bool → Type 0} {out' : List ℕ} {r : StationTook} → CallStepped S (next_call one at.run (whole_at at block s)) true at from s' Keeps out out' r
        → TakesCallStep one most fit at piece from s s' Keeps block block out out' r
    call-read h t = next-read one at piece from s block out fits h goes e t

-- ---- steps come to an end

-- the calls that a whole block can still have
abbrev calls-ahead : ℕ → ℕ → ℕ
calls-ahead have run = whether eqb have 512 then 7 - run else 0

-- what falls with each step, with so many bytes left
abbrev pub ahead : StationReading → ℕ → ℕ
ahead at left = whether at.reading.goes_on then 1 + (8 * left + calls-ahead at.reading.have at.run) else 0

seven-ahead : (have run : ℕ) → calls-ahead have run ≤ 7
seven-ahead have run = by-if (λ (k : ℕ). k ≤ 7) (eqb have 512) (7 - run) 0 (λ _. omega arith) (λ _. omega arith)

module _ {S : Type 0} (one : Doing S) (at : StationReading) (piece : List ℕ) (from : ℕ) (s : S) (block : List ℕ) (due : step_due at from (length piece) ≡ true) where
  abbrev g₁ : Stage (RunState S)
  g₁ = g one at piece from s block block true

  abbrev begun : List ℕ
  begun = take at.reading.have block

  abbrev Falls : Bool → CallStep S → Type 0
  Falls goes x = let r = with_run (took_as goes at.reading from x.taken) x.run in ahead r.reading (length piece - r.next) < ahead at (length piece - from)

  on : at.reading.goes_on ≡ true
  on = and_left at.reading.goes_on (eqb at.reading.have 512 || ltb from (length piece)) due

  before-is : ahead at (length piece - from) ≡ 1 + (8 * (length piece - from) + calls-ahead at.reading.have at.run)
  before-is = if-true _ _ on

  -- reading ends
  ends-here : (goes : Bool) (x : CallStep S) → x.taken.stage.goes_on ≡ false → Falls goes x
  ends-here goes x e = omega (arith, before-is, after)
    where
      after : ahead (with_run (took_as goes at.reading from x.taken) x.run).reading (length piece - (from + x.taken.used)) ≡ 0
      after = if-false _ _ e

  module _ (fits : length block ≡ 512) (filled : at.reading.have ≤ 512) where
    had-all : length begun ≡ at.reading.have
    had-all = length-take-le at.reading.have block (omega arith)

    abbrev new : List ℕ
    new = lacked begun (drop from piece)

    bytes_left : at.reading.have < 512 → from < length piece
    bytes_left h = ltb-true from (length piece) (sym (ap (λ (t : Bool). t || ltb from (length piece)) (ne_eqb at.reading.have 512 (λ e. omega (arith, e, h)))) ∙ and_right at.reading.goes_on (eqb at.reading.have 512 || ltb from (length piece)) due)

    fill-falls : ltb (length begun) 512 ≡ true → Falls true (no_call [] (length new) (block_has (begun ++ new) g₁) 0)
    fill-falls e =
        let part : at.reading.have < 512 = omega (arith, ltb-true (length begun) 512 e, had-all) in
        omega (arith, before-is, bytes_left part, had-all, part, length-take (512 - length begun) (drop from piece), length-drop from piece, seven-ahead (length (begun ++ new)) 0)

    module _ (whole : ltb (length begun) 512 ≡ false) where
      abbrev count : ℕ
      count = calls_in begun (length begun)

      full : at.reading.have ≡ 512
      full = omega (arith, ltb-false (length begun) 512 whole, had-all, filled)

      ahead-so : calls-ahead at.reading.have at.run ≡ 7 - at.run
      ahead-so = if-true _ _ (eq-eqb at.reading.have 512 full)

      abbrev t : Turned S
      t = one at.reading.index (call_at at.run begun) s

      same-falls : ltb (at.run + 1) count ≡ true → Falls true (did_call t (call_done t g₁) (at.run + 1))
      same-falls e =
          let after : calls-ahead (length begun) (at.run + 1) ≡ 7 - (at.run + 1) = if-true _ _ (eq-eqb (length begun) 512 (had-all ∙ full)) in
          omega (arith, before-is, ahead-so, after, ltb-true (at.run + 1) count e, calls-few begun (length begun))

      last-falls : leb count at.run ≡ false → Falls true (did_call t (block_over true (call_done t g₁)) 0)
      last-falls e = omega (arith, before-is, ahead-so, leb-false count at.run e, calls-few begun (length begun))

      call-falls : Falls true (next_call one at.run g₁)
      unfolding next_call
      call-falls = by-if (Falls true) (leb count at.run) (no_call (bad_line at.reading.number) 0 (block_over false g₁) 0) (whether ltb (at.run + 1) count then did_call t (call_done t g₁) (at.run + 1) else did_call t (block_over true (call_done t g₁)) 0)
          (λ _. ends-here true (no_call (bad_line at.reading.number) 0 (block_over false g₁) 0) refl)
          (λ e. by-if (Falls true) (ltb (at.run + 1) count) (did_call t (call_done t g₁) (at.run + 1)) (did_call t (block_over true (call_done t g₁)) 0) same-falls (λ _. last-falls e))

    step_falls : Falls true (step_file one (drop from piece) at.run g₁)
    unfolding step_file
    step_falls = by-if (Falls true) (ltb (length begun) 512) (no_call [] (length new) (block_has (begun ++ new) g₁) 0) (next_call one at.run g₁) fill-falls call-falls

  not-falls : Falls false (p one at piece from s block block false)
  unfolding step_file
  not-falls = ends-here false (p one at piece from s block block false) refl

  falls : (goes : Bool) → (goes ≡ true → length block ≡ 512) → (goes ≡ true → at.reading.have ≤ 512) → {out out' : List ℕ} {r : StationTook} → TookCall S (p one at piece from s block block goes) goes at from out out' r
      → ahead r.reading (length piece - r.next) < ahead at (length piece - from)
  falls false f h {r = r} t = subst⁻¹ (λ (x : StationTook). ahead x.reading (length piece - x.next) < ahead at (length piece - from)) t.answer not-falls
  falls true f h {r = r} t = subst⁻¹ (λ (x : StationTook). ahead x.reading (length piece - x.next) < ahead at (length piece - from)) t.answer (step_falls (f refl) (h refl))

-- a step that is due goes on
pub moves-on : {S : Type 0} (one : Doing S) (most : ℕ) (fit : Bool) (piece : List ℕ) (s : S) {at : StationReading} {from : ℕ} {s' : S} {Keeps : Bool → Type 0} {block block' out out' : List ℕ} {r : StationTook}
    → TakesCallStep one most fit at piece from s s' Keeps block block' out out' r → step_due at from (length piece) ≡ true → ahead r.reading (length piece - r.next) < ahead at (length piece - from)
moves-on one most fit piece s {at} {from} {block = block} {out = out} t due =
    falls one at piece from s block due (goes one most fit at piece from s block out) (fits-block most fit at.reading block out) (fits-bytes most fit at.reading block out) t.stepped.took
