-- The calls of a block of a report, one after another: what is printed so far and what is left make the whole. Assumes nothing.
use Prim.Native.Nat.{ℕ, suc, ◌+◌, ◌*◌, ◌-◌, ◌≤◌, ◌<◌}
use native.Mathlib.Omega.{arith}
use mathlib.Core.Path.{◌≡◌, refl, sym, ap, ◌∙◌, subst, subst⁻¹}
use mathlib.Core.Bool.{Bool, true, false, ◌||◌}
use mathlib.Core.List.{List, [], ◌++◌}
use lib.ListN.{length}
use Rattle.definition.specs.Calls.{Lengths, Result}
use Rattle.definition.specs.Layout.{Row, Buffers, lengths_of, buffer_step}
use Rattle.stats.specs.Counted.{more}
use Rattle.fates.specs.Blocks.{Block}
use Rattle.calls.specs.declared.Call.{Call}
use Rattle.callfile.specs.Blocks.{calls_in, call_at}
use Rattle.callfile.specs.Lines.{bad_line}
use Rattle.callfile.specs.Placed.{Puts, PutLine}
use Rattle.callfile.proofs.Parts.{then, none-put}
use Rattle.callfile.proofs.Texts.{first_next}
use Rattle.running.specs.Running.{lent_by, accepted, step_on, Run, Turned, block_calls, followed_run, each_call, each_of_block, Left}
use Rattle.running.proofs.Called.{step_by}
use Rattle.running.proofs.Blocks.{twice, all-printed, bad-printed, run-next, none_left, bad-is, good-is, left-twice, left-none, left-called, same-lengths}
use Rattle.reporting.specs.declared.Kept.{Kept}
use Rattle.reporting.specs.declared.Noticed.{Noticed}
use Rattle.reporting.specs.declared.Reported.{Reported}
use Rattle.reporting.specs.Reporting.{Noting, noted, noted_lines, report_call, noting_by, CallTold, Tells}

-- ---- so far

-- k calls are run, and their lines are put
pub record Said (block : List ℕ) (count from : ℕ) (b₀ : Buffers) (events₀ : List Row) (held₀ : List Block) (k₀ : Kept) (out₀ : List ℕ) (b : Buffers) (events : List Row) (held : List Block) (kept : Kept) (out : List ℕ) (index at k : ℕ) : Type 0 where
  pub text : List ℕ
  pub changed : Bool
  pub passed : k ≤ count
  pub put : Puts text 0 out₀ at out
  pub small : at ≤ 102848 * k
  pub rest : each_call (report_call (lengths_of b₀ (length events₀))) (block_calls 0 count block) from (noting_by b₀ events₀ held₀ k₀) ≡ followed_run text changed (each_call (report_call (lengths_of b₀ (length events₀))) (block_calls k (count - k) block) index (noting_by b events held kept))
  pub left : Left changed b₀ b events₀ events
  pub few : kept.count ≤ 512
  pub same : length held ≡ length held₀

pub none_yet : (block : List ℕ) (count from : ℕ) (b : Buffers) (events : List Row) (held : List Block) (k : Kept) (out : List ℕ) → k.count ≤ 512 → Said block count from b events held k out b events held k out from 0 0
none_yet block count from b events held k out few = record {
  text = [];
  changed = false;
  passed = omega arith;
  put = none-put 0 out;
  small = omega arith;
  rest = ap (λ (n : ℕ). each_call (report_call (lengths_of b (length events))) (block_calls 0 n block) from (noting_by b events held k)) minus;
  left = left-none b events;
  few = few;
  same = refl;
}
  where
    minus : count ≡ count - 0
    minus = omega arith

module _ (block : List ℕ) (count from : ℕ) (b₀ : Buffers) (events₀ : List Row) (held₀ : List Block) (k₀ : Kept) (out₀ : List ℕ) (b : Buffers) (events : List Row) (held : List Block) (kept : Kept) (out : List ℕ) (index at k : ℕ)
    (s : Said block count from b₀ events₀ held₀ k₀ out₀ b events held kept out index at k)
  where
    abbrev l : Lengths
    l = lengths_of b₀ (length events₀)

    abbrev whole : Run Noting
    whole = each_call (report_call l) (block_calls 0 count block) from (noting_by b₀ events₀ held₀ k₀)

    -- ---- one call more

    module _ (more_left : k < count) (x : Call) (named : x ≡ call_at k block) (b' : Buffers) (events' : List Row) (held' : List Block) (out' : List ℕ) (r : Noticed)
        (t : CallTold (buffer_step b (length events) x.code x.words) index x b b' events events' held held' kept at out out' r)
      where
        abbrev q : Result
        q = buffer_step b (length events) x.code x.words

        abbrev now : Noting
        now = noting_by b events held kept

        abbrev later : List ℕ → Bool → Noting → Run Noting
        later text changed m = followed_run text changed (each_call (report_call l) (block_calls (k + 1) (count - (k + 1)) block) (more index) m)

        by : step_on l x (lent_by b events) ≡ q
        by = sym (step_by b events x ∙ ap (λ (m : Lengths). step_on m x (lent_by b events)) (same-lengths s.left))

        does : report_call l index (call_at k block) now ≡ record { text = noted_lines index x q now; changed = accepted q; lent = noting_by b' events' held' r.kept }
        unfolding report_call
        does =
            ap (λ (y : Call). report_call l index y now) (sym named)
            ∙ ap (λ (z : Result). record { text = noted_lines index x z now; changed = accepted z; lent = noted x z now }) by
            ∙ ap (λ (m : Noting). record { text = noted_lines index x q now; changed = accepted q; lent = m }) (sym t.shows)

        next : each_call (report_call l) (block_calls k (count - k) block) index now ≡ later (noted_lines index x q now) (accepted q) (noting_by b' events' held' r.kept)
        next =
            let e : count - k ≡ suc (count - (k + 1)) = omega arith in
            run-next (report_call l) block k (count - (k + 1)) (count - k) index now e
            ∙ ap (λ (y : Turned Noting). later y.text y.changed y.lent) does

        pub one_more : Said block count from b₀ events₀ held₀ k₀ out₀ b' events' held' r.kept out' (more index) r.next (k + 1)
        one_more = record {
          text = s.text ++ noted_lines index x q now;
          changed = s.changed || accepted q;
          passed = omega arith;
          put = (then) s.put t.puts;
          small = omega (arith, s.small, t.short);
          rest = s.rest ∙ ap (followed_run s.text s.changed) next ∙ twice s.text (noted_lines index x q now) s.changed (accepted q) (each_call (report_call l) (block_calls (k + 1) (count - (k + 1)) block) (more index) (noting_by b' events' held' r.kept));
          left = left-twice s.left (left-called t.called);
          few = t.few;
          same = t.same ∙ s.same;
        }

    -- ---- the last is run

    pub all-run : count ≤ k → count ≤ 7 → 949760 ≤ length out₀
        → Tells whole b₀ b events₀ events held₀ held out₀ out (record { ran = record { index = index; written = at; goes_on = true }; kept = kept })
    all-run over most room =
        let none : count - k ≡ 0 = omega arith in
        subst⁻¹ (λ (q : Run Noting). Tells q b₀ b events₀ events held₀ held out₀ out (record { ran = record { index = index; written = at; goes_on = true }; kept = kept })) (none_left (report_call l) block whole s.text s.changed k (count - k) index (noting_by b events held kept) none s.rest) (record {
          printed = all-printed s.put (omega (arith, room, s.small, s.passed, most, first_next s.put));
          shows = refl;
          left = s.left;
          few = s.few;
          same = s.same;
        })

-- ---- a block, from its tests on

module _ (l : Lengths) (block : List ℕ) (index number : ℕ) (b : Buffers) (events : List Row) (held : List Block) (k : Kept) (out : List ℕ) (room : 949760 ≤ length out) (count : ℕ) (counted : count ≡ calls_in block (length block)) where
  abbrev run : Run Noting
  run = each_of_block (report_call l) block index number (noting_by b events held k)

  pub bad-block : count ≡ 0 → k.count ≤ 512 → {out' : List ℕ} {r : ℕ} → PutLine 128 (bad_line number) 0 out r out' → Tells run b b events events held held out out' (record { ran = record { index = index; written = r; goes_on = false }; kept = k })
  bad-block z few {out'} {r} p =
      subst⁻¹ (λ (q : Run Noting). Tells q b b events events held held out out' (record { ran = record { index = index; written = r; goes_on = false }; kept = k })) (bad-is (report_call l) block count index number (noting_by b events held k) counted z) (record {
        printed = bad-printed index number (noting_by b events held k) (omega (arith, room)) p;
        shows = refl;
        left = left-none b events;
        few = few;
        same = refl;
      })

  pub good-block : (count ≡ 0 → ⊥) → {b' : Buffers} {events' : List Row} {held' : List Block} {out' : List ℕ} {r : Reported}
      → Tells (each_call (report_call l) (block_calls 0 count block) index (noting_by b events held k)) b b' events events' held held' out out' r → Tells run b b' events events' held held' out out' r
  good-block z {b'} {events'} {held'} {out'} {r} p = subst (λ (q : Run Noting). Tells q b b' events events' held held' out out' r) (good-is (report_call l) block count index number (noting_by b events held k) counted z) p
