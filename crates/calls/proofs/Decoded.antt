-- The call that words in range give. Where the code is a numeral, `read code ws` is `provided b c` by computation (`unfolding read`), so one law
-- serves every code: `decoded 1 ws _ _ refl t`. Assumes nothing.
use Prim.Native.Nat.{ℕ}
use mathlib.Core.Path.{◌≡◌, refl, sym, ap, ◌∙◌}
use mathlib.Core.Bool.{Bool, true, false, ◌&&◌}
use mathlib.Core.List.{List}
use mathlib.Core.Option.{Option, some}
use Rattle.definition.specs.Base.{is_some}
use Rattle.definition.specs.Calls.{Call, arguments_ok}
use Rattle.definition.specs.Words.{provided, read, ranged_call, decode}
use Rattle.definition.proofs.Tests.{by-test, and_left, and_right}

-- whether such words are arguments: flags and unused words, and ranges
pub some-provided : (b : Bool) (c : Call) → is_some (ranged_call (provided b c)) ≡ (b && arguments_ok c)
unfolding provided
some-provided false c = refl
some-provided true c = by-test (arguments_ok c) (λ e. rw e) (λ e. rw e)

-- what a call's words come to: the call, its arguments in range, its flags known and its unused words 0
pub record Decoded (code : ℕ) (ws : List ℕ) (b : Bool) (c : Call) : Type 0 where
  pub call : decode code ws ≡ some c
  pub arguments : arguments_ok c ≡ true
  pub known : b ≡ true

pub decoded : (code : ℕ) (ws : List ℕ) (b : Bool) (c : Call) → read code ws ≡ provided b c → is_some (decode code ws) ≡ true → Decoded code ws b c
unfolding decode provided
decoded code ws b c e t =
    let s : (b && arguments_ok c) ≡ true = sym (some-provided b c) ∙ ap (λ (o : Option Call). is_some (ranged_call o)) (sym e) ∙ t in
    let k : b ≡ true = and_left b (arguments_ok c) s in
    let a : arguments_ok c ≡ true = and_right b (arguments_ok c) s in
    record { call = rw (e, k, a); arguments = a; known = k }
