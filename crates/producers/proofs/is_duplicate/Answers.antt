use mathlib.Core.Path.{◌≡◌, refl, sym, ap, ◌∙◌, subst}
use mathlib.Core.Bool.{true, false}
use mathlib.Core.List.{List}
use Prim.Native.Nat.{ℕ, ◌+◌, ◌≤◌, ◌<◌}
use borrow.Author.Tests.{not-true, not-false, eq-eqb, ne_eqb, le-leb, lt-leb}
use lib.Dec.{eqb}
use lib.ListN.{length, drop}
use mir.Syntax.{w64}
use mir.Val.{SFits}
use Rattle.definition.specs.Calls.{testing}
use Rattle.state.specs.declared.Head.{Head}
use Rattle.state.specs.Answers.{Replied}
use Rattle.state.proofs.Told.{accepted-told}
use Rattle.state.specs.State.{with_audit_count, refused_as, done_as}
use Rattle.producers.specs.Groups.{has_id, first_of}
use Rattle.producers.specs.Producers.{head_fits, HeadLeft, head_left, checked_at, tested, PerformsInHead}
use Rattle.producers.proofs.Tables.{counts}
use Rattle.producers.proofs.Promises.{carried, promised}
use Rattle.producers.proofs.Tested.{tested-unfit, tested-nobody, tested_at, found-performs, tested-full, tested-fresh, fresh-accepted, fresh-performs}
use native.Mathlib.Omega.{arith}
use borrow.Author.Rules.{rules}
use Rattle.producers.proofs.is_duplicate.Goals as goal
use Rattle.producers.proofs.is_duplicate.Goals.{Else-id-eq0, Else-not-fits, In_default, Start}

session-fits : (c : Start) → SFits w64 c.args.id.session
session-fits c = search rules

value-fits : (c : Start) → SFits w64 c.args.id.value
value-fits c = search rules

fit : (c : Else-not-fits) → let a = c.args in head_fits (length a.head.now) a.d ≡ true
fit c = sym c.fits.ensures ∙ not-false _ c.if-not-fits.false-raw

someone : (c : Else-id-eq0) → eqb c.args.id.conn 0 ≡ false
someone c = ne_eqb _ _ c.if-id-eq0.false

missing : (c : In_default) → let a = c.args in a.d.audits ≤ first_of (has_id a.id) 1029 a.d.audits (drop 113 a.head.now)
missing c = omega (arith, c.in_default.ensures)

pub returns-then-not-fits : goal.returns-then-not-fits
returns-then-not-fits c =
    let a = c.args in
    let h : List ℕ = a.head.now in
    carried (testing a.id a.number) a.d h (tested a.id a.number a.d h) _ (refused_as 2 a.d) h h refl refl
    (tested-unfit a.id a.number a.d h (sym c.fits.ensures ∙ not-true _ c.if-not-fits.true-raw))

pub returns-then-id-eq0 : goal.returns-then-id-eq0
returns-then-id-eq0 c =
    let a = c.args in
    let h : List ℕ = a.head.now in
    carried (testing a.id a.number) a.d h (tested a.id a.number a.d h) _ (done_as 0 a.d) h h refl refl
    (tested-nobody a.id a.number a.d h (fit (goal.at.returns-then-id-eq0 c).Else-not-fits) (eq-eqb _ _ c.if-id-eq0.true))

pub find-requires : goal.find-requires
find-requires c =
    let a = c.args in
    let n = counts (length a.head.now) a.d (fit (goal.at.find-requires c).Else-not-fits) in
    (search rules, omega arith)

pub check_at-requires : goal.check_at-requires
check_at-requires c =
    let a = c.args in
    let n = counts (length a.head.now) a.d (fit (goal.at.check_at-requires c).Else-not-fits) in
    (omega (arith, c.in-Some.ensures), omega arith)

pub returns-in-Some : goal.returns-in-Some
returns-in-Some c =
    let a = c.args in
    let h : List ℕ = a.head.now in
    let i = a.id in
    let q = a.number in
    let d = a.d in
    let first : ℕ = first_of (has_id i) 1029 d.audits (drop 113 h) in
    let b : first < d.audits = omega (arith, c.in-Some.ensures) in
    let s = someone (goal.at.returns-in-Some c).Else-id-eq0 in
    let all = tested_at i q d h (fit (goal.at.returns-in-Some c).Else-not-fits) s b in
    promised (testing i q) d h (tested i q d h) _ _ (c.check_at.ensures ∙ ap (λ (m : ℕ). checked_at m q d h) c.in-Some.ensures.1 ∙ sym all)
    (subst (λ (x : HeadLeft). PerformsInHead (testing i q) d h x.result x.words) (sym all) (found-performs i q d h (fit (goal.at.returns-in-Some c).Else-not-fits) s b))

pub returns-then-n-ge-AUDITS : goal.returns-then-n-ge-AUDITS
returns-then-n-ge-AUDITS c =
    let a = c.args in
    let h : List ℕ = a.head.now in
    carried (testing a.id a.number) a.d h (tested a.id a.number a.d h) _ (refused_as 8 a.d) h h refl refl
    (tested-full a.id a.number a.d h (fit (goal.at.returns-then-n-ge-AUDITS c).Else-not-fits) (someone (goal.at.returns-then-n-ge-AUDITS c).Else-id-eq0) (missing (goal.at.returns-then-n-ge-AUDITS c).In_default) (le-leb _ _ c.if-n-ge-AUDITS.true))

pub new_audit-requires : goal.new_audit-requires
new_audit-requires c =
    let a = c.args in
    let n = counts (length a.head.now) a.d (fit (goal.at.new_audit-requires c).Else-not-fits) in
    (c.if-n-ge-AUDITS.false, n.long)

pub check_at-requires-2 : goal.check_at-requires-2
check_at-requires-2 c =
    let a = c.args in
    let n = counts (length a.head.now) a.d (fit (goal.at.check_at-requires-2 c).Else-not-fits) in
    (c.if-n-ge-AUDITS.false, omega (arith, c.new_audit.auto))

pub returns : goal.returns
returns c =
    let a = c.args in
    let h : List ℕ = a.head.now in
    let i = a.id in
    let q = a.number in
    let d = a.d in
    let s = someone (goal.at.returns c).Else-id-eq0 in
    let u = lt-leb _ _ c.if-n-ge-AUDITS.false in
    let all = tested-fresh i q d h (fit (goal.at.returns c).Else-not-fits) s (missing (goal.at.returns c).In_default) (session-fits (goal.at.returns c).Start) (value-fits (goal.at.returns c).Start) u in
    let e : Head = with_audit_count (d.audits + 1) d in
    let is = c.check_at-2.ensures ∙ ap (checked_at d.audits q e) c.new_audit.ensures in
    let zero = ap (λ (x : HeadLeft). x.result.refusal) is ∙ fresh-accepted i q d h (fit (goal.at.returns c).Else-not-fits) s (missing (goal.at.returns c).In_default) (session-fits (goal.at.returns c).Start) (value-fits (goal.at.returns c).Start) u in
    promised (testing i q) d h (tested i q d h) _ _ (ap (λ (x : Replied). head_left x c.check_at-2.new.head) (accepted-told e d c.check_at-2.result zero) ∙ is ∙ sym all)
    (subst (λ (x : HeadLeft). PerformsInHead (testing i q) d h x.result x.words) (sym all) (fresh-performs i q d h (fit (goal.at.returns c).Else-not-fits) s (missing (goal.at.returns c).In_default) (session-fits (goal.at.returns c).Start) (value-fits (goal.at.returns c).Start) u))
