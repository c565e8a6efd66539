use Rattle.std.proofs.Common.{◌≡◌, ◌∙◌, ◌-◌, ◌+◌, ◌%◌, ℕ, sym, ap, arith, get_or, [], subst, true}
use Rattle.std.proofs.Math.Seq.{slice}
use Rattle.std.proofs.Math.Nat.{mod-lt}
use lib.ListN.{length-replicate, length-set, set}
use Rattle.definition.specs.Base.{all}
use Rattle.definition.specs.Words.{at}
use Rattle.copies.specs.Copies.{alike, agree_at, Slot}
use Rattle.copies.proofs.Laws.{Slots, slots_at, slots-none, slots-more, agree-more, agree-stop, agree-none, agree-all, after}
use Rattle.copies.proofs.many_agree.Goals as goal

pub loop-i-init : goal.loop-i-init
loop-i-init g c = (agree-none c.args.n c.args.rows.now, length-replicate {A = ℕ} g.row.N 0, slots-none g.row.N c.args.n c.args.rows.now)

pub offset_bounds-slots-slot : goal.offset_bounds-slots-slot
offset_bounds-slots-slot g c = omega (arith, mod-lt (at 0 (get_or c.args.rows.now (c.loop-i.i - 1) [])) c.requires.table.0)

pub agrees-requires : goal.agrees-requires
agrees-requires g c =
    let a = c.args in
    let rows = a.rows.now in
    let l = c.loop-i in
    let x = at 0 (get_or rows (l.i - 1) []) in
    let e = sym (after rows l.i a.n c.requires.n_in_bounds c.loop-i-test.true l.auto.i) in record {
      from_le_to = omega (arith, c.loop-i-test.true, l.auto.i);
      to_in_bounds = c.requires.n_in_bounds;
      rows_value = subst (λ (j : ℕ). agree_at (slice j a.n rows) ≡ true) e l.invariant.0;
      slot = subst (λ (j : ℕ). Slot x (get_or l.slots (x % g.row.N) 0) j a.n rows) e (slots_at g.row.N l.slots l.i a.n rows l.invariant.2 x);
    }

pub returns-then-not-agrees : goal.returns-then-not-agrees
returns-then-not-agrees g c =
    let a = c.args in
    let l = c.loop-i in
    let w = get_or a.rows.now (l.i - 1) [] in
    let e = sym (after a.rows.now l.i a.n c.requires.n_in_bounds c.loop-i-test.true l.auto.i) in
    agree-stop a.rows.now l.i a.n c.requires.n_in_bounds c.loop-i-test.true l.auto.i (ap (λ (j : ℕ). all (alike (at 0 w) (at 9 w)) (slice j a.n a.rows.now)) e ∙ sym c.agrees.ensures ∙ c.if-not-agrees.true)

pub loop-i-preserved : goal.loop-i-preserved
loop-i-preserved g c =
    let a = c.args in
    let rows = a.rows.now in
    let l = c.loop-i in
    let h = c.loop-i-test.true in
    let w = get_or rows (l.i - 1) [] in
    let e = sym (after rows l.i a.n c.requires.n_in_bounds h l.auto.i) in
    (agree-more rows l.i a.n c.requires.n_in_bounds h l.auto.i l.invariant.0 (ap (λ (j : ℕ). all (alike (at 0 w) (at 9 w)) (slice j a.n rows)) e ∙ sym c.agrees.ensures ∙ c.if-not-agrees.false), length-set l.slots (at 0 w % g.row.N) (l.i - 1 + 1) ∙ l.invariant.1, subst (λ (j : ℕ). Slots g.row.N (set l.slots (at 0 w % g.row.N) j) (l.i - 1) a.n rows) e (slots-more rows l.i a.n c.requires.n_in_bounds h l.auto.i g.row.N (λ x. mod-lt x c.requires.table.0) l.slots l.invariant.1 l.invariant.2))

pub returns : goal.returns
returns g c = agree-all c.loop-i.i c.args.n c.args.rows.now (omega (arith, c.loop-i-test.false)) c.loop-i.invariant.0
