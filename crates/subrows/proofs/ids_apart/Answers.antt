use Rattle.std.proofs.Common.{◌≡◌, ℕ, ◌+◌, ◌-◌, Bool, List, sym, ap, ◌∙◌, not, get_or, [], drop, length, arith}
use Rattle.std.specs.List.{slice_range}
use lib.ListN.{length-drop}
use lib.Seq.{take_all}
use Rattle.model.specs.Model.{same_id}
use Rattle.definition.specs.Base.{all}
use Rattle.definition.specs.Layout.{Row, id_at}
use Rattle.subrows.specs.Subrows.{ids_apart}
use Rattle.subrows.proofs.Subs.{ids-stop, ids_next, ids-end}
use Rattle.subrows.proofs.ids_apart.Goals as goal

-- what is said of the consumers after the one at i
others : (r b : Bool) (subs : List Row) (i : ℕ) → r ≡ all (λ v. not (same_id (id_at v) (id_at (get_or subs i [])))) (slice_range subs (i + 1) (length subs)) → r ≡ b
    → all (λ v. not (same_id (id_at v) (id_at (get_or subs i [])))) (drop (i + 1) subs) ≡ b
others r b subs i e q =
    ap (λ (l : List Row). all (λ v. not (same_id (id_at v) (id_at (get_or subs i [])))) l) (sym (take_all (length subs - (i + 1)) (drop (i + 1) subs) (omega (arith, length-drop (i + 1) subs)))) ∙ sym e ∙ q

pub returns-then-not-alone : goal.returns-then-not-alone
returns-then-not-alone c =
    let subs = c.args.subs.now in
    let i = c.loop-i.i in
    ids-stop subs i (ids_apart subs) c.loop-i.invariant c.loop-i-test.true (others _ _ subs i c.alone.ensures c.if-not-alone.true)

pub loop-i-preserved : goal.loop-i-preserved
loop-i-preserved c =
    let subs = c.args.subs.now in
    let i = c.loop-i.i in
    ids_next subs i (ids_apart subs) c.loop-i.invariant c.loop-i-test.true (others _ _ subs i c.alone.ensures c.if-not-alone.false)

pub returns : goal.returns
returns c =
    let subs = c.args.subs.now in
    ids-end subs c.loop-i.i (ids_apart subs) c.loop-i.invariant (omega (arith, c.loop-i-test.false))
