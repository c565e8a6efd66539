use Prim.Native.Nat.{ℕ}
use mathlib.Core.List.{List}
use mathlib.Core.Logic.{⊎_elim, inl, inr}
use borrow.Author.Tests.{ne_eqb}
use Rattle.definition.specs.Words.{read, decode}
use Rattle.calls.specs.Calls.{Words}
use Rattle.calls.proofs.Ranges as R
use Rattle.calls.proofs.Call.in_range.Goals as goal

pub returns-in-1 : goal.returns-in-1
returns-in-1 c =
    let code : ℕ = c.args.self.code in
    let ws : List ℕ = c.args.self.words in
    let h : Words ws = c.words_fit.ensures in
    R.arm code 1 ws _ _ (R.enqueue-range ws h) c.enqueue_ok.ensures c.in-1.is

pub returns-in-2 : goal.returns-in-2
returns-in-2 c =
    let code : ℕ = c.args.self.code in
    let ws : List ℕ = c.args.self.words in
    let h : Words ws = c.words_fit.ensures in
    R.arm code 2 ws _ _ (R.join-range ws h) c.join_ok.ensures c.in-2.is

pub returns-in-3 : goal.returns-in-3
returns-in-3 c =
    let code : ℕ = c.args.self.code in
    let ws : List ℕ = c.args.self.words in
    let h : Words ws = c.words_fit.ensures in
    ⊎_elim (R.arm code 3 ws _ _ (R.leave-range ws h) c.timed_ok.ensures) (R.arm code 5 ws _ _ (R.pull-range ws h) c.timed_ok.ensures) c.in-3.is

pub returns-in-4 : goal.returns-in-4
returns-in-4 c =
    let code : ℕ = c.args.self.code in
    let ws : List ℕ = c.args.self.words in
    let h : Words ws = c.words_fit.ensures in
    R.arm code 4 ws _ _ (R.ack-range ws h) c.ack_ok.ensures c.in-4.is

pub returns-in-6 : goal.returns-in-6
returns-in-6 c =
    let code : ℕ = c.args.self.code in
    let ws : List ℕ = c.args.self.words in
    let h : Words ws = c.words_fit.ensures in
    ⊎_elim (R.arm code 6 ws _ _ (R.timeout-range ws h) c.unused.ensures) (R.arm code 13 ws _ _ (R.duplicate-range ws h) c.unused.ensures) c.in-6.is

pub returns-in-7 : goal.returns-in-7
returns-in-7 c =
    let code : ℕ = c.args.self.code in
    let ws : List ℕ = c.args.self.words in
    let h : Words ws = c.words_fit.ensures in
    R.arm code 7 ws _ _ (R.prefetch-range ws h) c.prefetch_ok.ensures c.in-7.is

pub returns-in-12 : goal.returns-in-12
returns-in-12 c =
    let code : ℕ = c.args.self.code in
    let ws : List ℕ = c.args.self.words in
    let h : Words ws = c.words_fit.ensures in
    ⊎_elim (R.arm code 12 ws _ _ (R.remove_range ws h) c.clocked_ok.ensures) (R.arm code 15 ws _ _ (R.release-range ws h) c.clocked_ok.ensures) c.in-12.is

pub returns-in-9 : goal.returns-in-9
returns-in-9 c =
    let code : ℕ = c.args.self.code in
    let ws : List ℕ = c.args.self.words in
    let h : Words ws = c.words_fit.ensures in
    R.arm code 9 ws _ _ (R.sweep-range ws h) c.sweep_ok.ensures c.in-9.is

pub returns-in-10 : goal.returns-in-10
returns-in-10 c =
    let code : ℕ = c.args.self.code in
    let ws : List ℕ = c.args.self.words in
    let h : Words ws = c.words_fit.ensures in
    R.arm code 10 ws _ _ (R.clear-range ws h) c.unused-in-10.ensures c.in-10.is

pub returns-in-8 : goal.returns-in-8
returns-in-8 c =
    let code : ℕ = c.args.self.code in
    let ws : List ℕ = c.args.self.words in
    let h : Words ws = c.words_fit.ensures in
    ⊎_elim (R.arm code 8 ws _ _ (R.unmark-range ws h) c.unused-in-8.ensures) (R.arm code 11 ws _ _ (R.add-range ws h) c.unused-in-8.ensures) c.in-8.is

pub returns-in-14 : goal.returns-in-14
returns-in-14 c =
    let code : ℕ = c.args.self.code in
    let ws : List ℕ = c.args.self.words in
    let h : Words ws = c.words_fit.ensures in
    R.arm code 14 ws _ _ (R.forget-range ws h) c.unused-in-14.ensures c.in-14.is

pub returns-in_default : goal.returns-in_default
unfolding decode read
returns-in_default c =
    let code : ℕ = c.args.self.code in
    let n = c.in_default.in_default-own.rest in
    rw (
      ne_eqb code 1 n.0.0.0.0.0.0.0.0.0.0.1,
      ne_eqb code 2 n.0.0.0.0.0.0.0.0.0.1,
      ne_eqb code 3 (λ e. n.0.0.0.0.0.0.0.0.1 (inl e)),
      ne_eqb code 4 n.0.0.0.0.0.0.0.1,
      ne_eqb code 5 (λ e. n.0.0.0.0.0.0.0.0.1 (inr e)),
      ne_eqb code 6 (λ e. n.0.0.0.0.0.0.1 (inl e)),
      ne_eqb code 7 n.0.0.0.0.0.1,
      ne_eqb code 8 (λ e. n.0.1 (inl e)),
      ne_eqb code 9 n.0.0.0.1,
      ne_eqb code 10 n.0.0.1,
      ne_eqb code 11 (λ e. n.0.1 (inr e)),
      ne_eqb code 12 (λ e. n.0.0.0.0.1 (inl e)),
      ne_eqb code 13 (λ e. n.0.0.0.0.0.0.1 (inr e)),
      ne_eqb code 14 n.1,
      ne_eqb code 15 (λ e. n.0.0.0.0.1 (inr e)),
    )
