use Rattle.std.proofs.Common.{arith, refl, ◌≡◌, sym, ap, ◌∙◌, ◌<◌, ◌≤◌, length, get_or, [], true, false, ℕ}
use Rattle.std.proofs.lemmas.Fn.{says_at}
use Rattle.definition.specs.Base.{tally}
use lib.Seq.{slice}
use Rattle.table.specs.Table.{compacted}
use Rattle.table.proofs.Segments.{tally-none, count_turn, count-miss, compacted-none, compacted-at, compacted-gone, compacted-kept, compacted-still}
use Rattle.table.proofs.compact.Goals as goal
use Rattle.table.proofs.compact.Goals.{then-goes, else-goes+then-gone-gt0, else-goes+else-gone-gt0}

pub loop-i-init : goal.loop-i-init
loop-i-init g c = (refl, omega arith, λ p t. (tally-none p c.args.from c.args.rows.now, compacted-none p c.args.from c.args.rows.now))

pub loop-i-preserved : goal.loop-i-preserved
loop-i-preserved g c =
    let a = c.args in
    let l = c.loop-i in
    let x = get_or l.rows l.i [] in
    let h : a.from ≤ l.i = omega arith in
    let b : l.i < length a.rows.now = omega arith in
    let e = l.invariant.2 in
    elim c.if-goes.branch [
      | then-goes w ↦ (
        c.if-goes.auto.rows ∙ l.invariant.0,
        omega arith,
        λ p t.
            let hit : p x ≡ true = sym (t x c.goes.result (says_at g.F.Fn c.goes.ensures refl)) ∙ w.if-goes.true in (
              w.gone-is ∙ count_turn p a.from l.i a.rows.now x true l.gone 1 h b (compacted-at p a.from l.i a.rows.now l.rows h b (e p t).1) hit refl (e p t).0,
              w.rows-is ∙ compacted-gone p a.from l.i a.rows.now l.rows h b (e p t).1 hit,
            ),
      )
      | else-goes+then-gone-gt0 w ↦ (
        c.if-goes.auto.rows ∙ l.invariant.0,
        omega arith,
        λ p t.
            let miss : p x ≡ false = sym (t x c.goes.result (says_at g.F.Fn c.goes.ensures refl)) ∙ w.if-goes.false in (
              w.gone-is ∙ count-miss p a.from l.i a.rows.now x l.gone h b (compacted-at p a.from l.i a.rows.now l.rows h b (e p t).1) miss (e p t).0,
              w.rows-is ∙ compacted-kept p a.from l.i a.rows.now l.rows h b (e p t).1 l.gone (e p t).0 miss,
            ),
      )
      | else-goes+else-gone-gt0 w ↦ (
        c.if-goes.auto.rows ∙ l.invariant.0,
        omega arith,
        λ p t.
            let miss : p x ≡ false = sym (t x c.goes.result (says_at g.F.Fn c.goes.ensures refl)) ∙ w.if-goes.false in (
              w.gone-is ∙ count-miss p a.from l.i a.rows.now x l.gone h b (compacted-at p a.from l.i a.rows.now l.rows h b (e p t).1) miss (e p t).0,
              w.rows-is ∙ compacted-still p a.from l.i a.rows.now l.rows h b (e p t).1 l.gone (e p t).0 (omega arith) miss,
            ),
      )
    ]

pub returns : goal.returns
returns g c =
    let a = c.args in
    let l = c.loop-i in
    let e : l.i ≡ a.to = omega arith in record {
      few = omega arith;
      moved = λ p t. ((l.invariant.2 p t).0 ∙ ap (λ (m : ℕ). tally p (slice a.from m a.rows.now)) e, (l.invariant.2 p t).1 ∙ ap (λ (m : ℕ). compacted p a.from m a.rows.now) e);
    }
