-- The calls of a block, one after another: what is printed so far and what is left make the whole. Assumes nothing.
use Prim.Native.Nat.{ℕ, suc, ◌+◌, ◌*◌, ◌-◌, ◌≤◌, ◌<◌}
use native.Mathlib.Omega.{arith}
use mathlib.Core.Path.{◌≡◌, refl, sym, ap, ap₂, ◌∙◌, subst, subst⁻¹}
use mathlib.Core.Bool.{Bool, true, false, ◌||◌, true≢false, or-false, or_assoc}
use mathlib.Core.List.{List, [], ◌++◌, append_assoc, append-nil}
use borrow.Author.Tests.{eqb-true, eqb-false, eq-eqb, ne_eqb}
use lib.ListN.{length}
use Rattle.definition.specs.Calls.{Lengths, Result}
use Rattle.definition.specs.Layout.{Row, Buffers, sound_buffers, lengths_of, buffer_step}
use Rattle.definition.proofs.Tests.{by-test, if-true, if-false, or-no-left, or-no-right}
use Rattle.stats.specs.Counted.{more}
use Rattle.calls.specs.declared.Call.{Call}
use Rattle.engine.specs.Called.{Called}
use Rattle.callfile.specs.Blocks.{calls_in, call_at}
use Rattle.callfile.specs.Lines.{bad_line}
use Rattle.callfile.specs.Placed.{Puts, PutLine}
use Rattle.callfile.proofs.Parts.{then, line-puts, none-put}
use Rattle.callfile.proofs.Digits.{bad-length}
use Rattle.callfile.proofs.Texts.{first_next, first-text}
use Rattle.running.specs.declared.Ran.{Ran}
use Rattle.running.specs.Running.{call_lines, LentState, lent_by, accepted, step_on, left_by, outcome_of, Run, Turned, Doing, block_calls, followed_run, ends, each_call, each_of_block, run_call, Left, Printed, Runs}
use Rattle.running.proofs.Called.{step_by, sends, text-length, leaves}

-- ---- the definition, a call at a time

or-other : (a b : Bool) → b ≡ false → (a || b) ≡ true → a ≡ true
or-other a b e h = sym (or-false a) ∙ sym (ap (λ (x : Bool). a || x) e) ∙ h

module _ {S : Type 0} where
  abbrev pub stopped : List ℕ → ℕ → Bool → S → Run S
  stopped text index changed s = record { text = text; index = index; goes_on = true; changed = changed; lent = s }

  pub twice : (t u : List ℕ) (a b : Bool) (q : Run S) → followed_run t a (followed_run u b q) ≡ followed_run (t ++ u) (a || b) q
  twice t u a b q = sym (λ j. record { text = append_assoc t u q.text j; index = q.index; goes_on = q.goes_on; changed = or_assoc a b q.changed j; lent = q.lent })

  -- the lines that were put
  pub all-printed : {text : List ℕ} {index at : ℕ} {changed : Bool} {s : S} {out₀ out : List ℕ} → Puts text 0 out₀ at out → length text ≤ length out₀ → Printed S (stopped text index changed s) out₀ out (record { index = index; written = at; goes_on = true })
  all-printed p h = record { index = refl; written = first_next p; goes_on = refl; text = first-text p h }

  pub bad-printed : (index number : ℕ) (s : S) {out out' : List ℕ} {r : ℕ} → 128 ≤ length out → PutLine 128 (bad_line number) 0 out r out' → Printed S (ends (bad_line number) index s) out out' (record { index = index; written = r; goes_on = false })
  bad-printed index number s {out} {out'} {r} room p =
      let put : Puts (bad_line number) 0 out r out' = line-puts (omega (arith, room)) (bad-length number) p in
      record { index = refl; written = first_next put; goes_on = refl; text = first-text put (omega (arith, room, bad-length number)) }

module _ {S : Type 0} (one : Doing S) (block : List ℕ) where
  pub run-next : (k n m index : ℕ) (s : S) → m ≡ suc n
      → let t = one index (call_at k block) s in each_call one (block_calls k m block) index s ≡ followed_run t.text t.changed (each_call one (block_calls (k + 1) n block) (more index) t.lent)
  unfolding each_call block_calls
  run-next k n m index s e = ap (λ (x : ℕ). each_call one (block_calls k x block) index s) e

  run-over : (k m index : ℕ) (s : S) → m ≡ 0 → each_call one (block_calls k m block) index s ≡ stopped [] index false s
  unfolding each_call block_calls
  run-over k m index s e = ap (λ (x : ℕ). each_call one (block_calls k x block) index s) e

  -- what is printed so far is the whole, once no call is left
  pub none_left : (q : Run S) (text : List ℕ) (changed : Bool) (k m index : ℕ) (s : S) → m ≡ 0 → q ≡ followed_run text changed (each_call one (block_calls k m block) index s) → q ≡ stopped text index changed s
  none_left q text changed k m index s e h =
      h ∙ ap (followed_run text changed) (run-over k m index s e) ∙ (λ j. stopped (append-nil text j) index (or-false changed j) s)

  -- a block, by its count
  pub bad-is : (count index number : ℕ) (s : S) → count ≡ calls_in block (length block) → count ≡ 0 → each_of_block one block index number s ≡ ends (bad_line number) index s
  unfolding each_of_block
  bad-is count index number s counted z = if-true _ _ (eq-eqb (calls_in block (length block)) 0 (sym counted ∙ z))

  pub good-is : (count index number : ℕ) (s : S) → count ≡ calls_in block (length block) → (count ≡ 0 → ⊥) → each_call one (block_calls 0 count block) index s ≡ each_of_block one block index number s
  unfolding each_of_block
  good-is count index number s counted z =
      ap (λ (n : ℕ). each_call one (block_calls 0 n block) index s) counted
      ∙ sym (if-false _ _ (ne_eqb (calls_in block (length block)) 0 (λ e. z (counted ∙ e))))

-- two steps leave what each leaves
pub left-twice : {a c : Bool} {b b₁ b₂ : Buffers} {events events₁ events₂ : List Row} → Left a b b₁ events events₁ → Left c b₁ b₂ events₁ events₂ → Left (a || c) b b₂ events events₂
left-twice {a} {c} x y = record {
  leaves-sound = λ h. by-test c
      (λ e. y.leaves-sound e)
      (λ e. ap sound_buffers (y.kept e) ∙ x.leaves-sound (or-other a c e h));
  kept = λ h. y.kept (or-no-right a c h) ∙ x.kept (or-no-left a c h);
  past = record {
    head-past = y.past.head-past ∙ x.past.head-past;
    subs-past = y.past.subs-past ∙ x.past.subs-past;
    rows-past = y.past.rows-past ∙ x.past.rows-past;
    head-length = y.past.head-length ∙ x.past.head-length;
    subs-length = y.past.subs-length ∙ x.past.subs-length;
    rows-length = y.past.rows-length ∙ x.past.rows-length;
    events-length = y.past.events-length ∙ x.past.events-length;
  };
}

-- what nothing leaves, and what a call leaves
pub left-none : (b : Buffers) (events : List Row) → Left false b b events events
left-none b events = record {
  leaves-sound = λ e. absurd (true≢false (sym e));
  kept = λ _. refl;
  past = record { head-past = refl; subs-past = refl; rows-past = refl; head-length = refl; subs-length = refl; rows-length = refl; events-length = refl };
}

pub left-called : {q : Result} {b b' : Buffers} {events events' : List Row} → Called q b b' events events' (outcome_of q) → Left (accepted q) b b' events events'
left-called {q} called = record {
  leaves-sound = λ e. called.leaves-sound (eqb-true q.refusal 0 e);
  kept = λ e. (called.kept (eqb-false q.refusal 0 e)).0;
  past = called.past;
}

-- the lengths stay
pub same-lengths : {a : Bool} {b b' : Buffers} {events events' : List Row} → Left a b b' events events' → lengths_of b' (length events') ≡ lengths_of b (length events)
same-lengths x = λ j. record { head = x.past.head-length j; subs = x.past.subs-length j; rows = x.past.rows-length j; events = x.past.events-length j }

-- ---- so far

-- k calls are run, and their lines are put
pub record Sofar (block : List ℕ) (count from : ℕ) (b₀ : Buffers) (events₀ : List Row) (out₀ : List ℕ) (b : Buffers) (events : List Row) (out : List ℕ) (index at k : ℕ) : Type 0 where
  pub text : List ℕ
  pub changed : Bool
  pub passed : k ≤ count
  pub put : Puts text 0 out₀ at out
  pub small : at ≤ 69888 * k
  pub rest : each_call (run_call (lengths_of b₀ (length events₀))) (block_calls 0 count block) from (lent_by b₀ events₀) ≡ followed_run text changed (each_call (run_call (lengths_of b₀ (length events₀))) (block_calls k (count - k) block) index (lent_by b events))
  pub left : Left changed b₀ b events₀ events

pub none_yet : (block : List ℕ) (count from : ℕ) (b : Buffers) (events : List Row) (out : List ℕ) → Sofar block count from b events out b events out from 0 0
none_yet block count from b events out = record {
  text = [];
  changed = false;
  passed = omega arith;
  put = none-put 0 out;
  small = omega arith;
  rest = ap (λ (n : ℕ). each_call (run_call (lengths_of b (length events))) (block_calls 0 n block) from (lent_by b events)) minus;
  left = left-none b events;
}
  where
    minus : count ≡ count - 0
    minus = omega arith

module _ (block : List ℕ) (count from : ℕ) (b₀ : Buffers) (events₀ : List Row) (out₀ : List ℕ) (b : Buffers) (events : List Row) (out : List ℕ) (index at k : ℕ)
    (s : Sofar block count from b₀ events₀ out₀ b events out index at k)
  where
    abbrev l : Lengths
    l = lengths_of b₀ (length events₀)

    -- ---- one call more

    module _ (more_left : k < count) (x : Call) (named : x ≡ call_at k block) (b' : Buffers) (events' : List Row) (out' : List ℕ) (at' : ℕ)
        (called : Called (buffer_step b (length events) x.code x.words) b b' events events' (outcome_of (buffer_step b (length events) x.code x.words)))
        (puts : Puts (call_lines index (buffer_step b (length events) x.code x.words)) at out at' out')
      where
        abbrev q : Result
        q = buffer_step b (length events) x.code x.words

        by : step_on l (call_at k block) (lent_by b events) ≡ q
        by = sym (step_by b events x ∙ ap₂ (λ (m : Lengths) (y : Call). step_on m y (lent_by b events)) (same-lengths s.left) named)

        does : run_call l index (call_at k block) (lent_by b events) ≡ record { text = call_lines index q; changed = accepted q; lent = lent_by b' events' }
        unfolding run_call
        does =
            ap (λ (r : Result). record { text = call_lines index r; changed = accepted r; lent = left_by r (lent_by b events) }) by
            ∙ ap (λ (t : LentState). record { text = call_lines index q; changed = accepted q; lent = t }) (sym (leaves called))

        next : each_call (run_call l) (block_calls k (count - k) block) index (lent_by b events) ≡ followed_run (call_lines index q) (accepted q) (each_call (run_call l) (block_calls (k + 1) (count - (k + 1)) block) (more index) (lent_by b' events'))
        next =
            let e : count - k ≡ suc (count - (k + 1)) = omega arith in
            run-next (run_call l) block k (count - (k + 1)) (count - k) index (lent_by b events) e
            ∙ ap (λ (t : Turned LentState). followed_run t.text t.changed (each_call (run_call l) (block_calls (k + 1) (count - (k + 1)) block) (more index) t.lent)) does

        pub one_more : Sofar block count from b₀ events₀ out₀ b' events' out' (more index) at' (k + 1)
        one_more = record {
          text = s.text ++ call_lines index q;
          changed = s.changed || accepted q;
          passed = omega arith;
          put = then s.put puts;
          small = omega (arith, s.small, puts.next, text-length index q (sends b (length events) x.code x.words));
          rest = s.rest ∙ ap (followed_run s.text s.changed) next ∙ twice s.text (call_lines index q) s.changed (accepted q) (each_call (run_call l) (block_calls (k + 1) (count - (k + 1)) block) (more index) (lent_by b' events'));
          left = left-twice s.left (left-called called);
        }

    -- ---- the last is run

    pub all-run : count ≤ k → count ≤ 7 → 489216 ≤ length out₀
        → Runs (each_call (run_call l) (block_calls 0 count block) from (lent_by b₀ events₀)) b₀ b events₀ events out₀ out (record { index = index; written = at; goes_on = true })
    all-run over most room =
        let none : count - k ≡ 0 = omega arith in
        subst⁻¹ (λ (q : Run LentState). Runs q b₀ b events₀ events out₀ out (record { index = index; written = at; goes_on = true })) (none_left (run_call l) block (each_call (run_call l) (block_calls 0 count block) from (lent_by b₀ events₀)) s.text s.changed k (count - k) index (lent_by b events) none s.rest) (record {
          printed = all-printed s.put (omega (arith, room, s.small, s.passed, most, first_next s.put));
          shows = refl;
          left = s.left;
        })

-- ---- a block, from its tests on

module _ (l : Lengths) (block : List ℕ) (index number : ℕ) (b : Buffers) (events : List Row) (out : List ℕ) (room : 489216 ≤ length out) (count : ℕ) (counted : count ≡ calls_in block (length block)) where
  abbrev run : Run LentState
  run = each_of_block (run_call l) block index number (lent_by b events)

  pub bad-block : count ≡ 0 → {out' : List ℕ} {r : ℕ} → PutLine 128 (bad_line number) 0 out r out' → Runs run b b events events out out' (record { index = index; written = r; goes_on = false })
  bad-block z {out'} {r} p =
      subst⁻¹ (λ (q : Run LentState). Runs q b b events events out out' (record { index = index; written = r; goes_on = false })) (bad-is (run_call l) block count index number (lent_by b events) counted z) (record {
        printed = bad-printed index number (lent_by b events) (omega (arith, room)) p;
        shows = refl;
        left = left-none b events;
      })

  pub good-block : (count ≡ 0 → ⊥) → {b' : Buffers} {events' : List Row} {out' : List ℕ} {r : Ran}
      → Runs (each_call (run_call l) (block_calls 0 count block) index (lent_by b events)) b b' events events' out out' r → Runs run b b' events events' out out' r
  good-block z {b'} {events'} {out'} {r} p = subst (λ (q : Run LentState). Runs q b b' events events' out out' r) (good-is (run_call l) block count index number (lent_by b events) counted z) p
