use Rattle.callfile.proofs.Parts.{then}
use Rattle.layouttext.proofs.Covers.{two, scanned}
use Rattle.layouttext.proofs.Saying.{overlap-text}
use native.Mathlib.Omega.{arith}
use borrow.Author.Rules.{rules}
use Rattle.layouttext.proofs.put_overlap.Goals as goal

pub overflow_add-i : goal.overflow_add-i
overflow_add-i c =
    let w = two c.args.layout c.args.rows.now c.requires.1 in
    omega (arith, w.order, w.within, c.cover_from-i.ensures)

pub offset_bounds-lines-i : goal.offset_bounds-lines-i
offset_bounds-lines-i c =
    let z = scanned c.args.layout c.args.rows.now c.requires.1 c.cover_from-i.ensures c.cover_from-j.ensures in
    search rules

pub bounds-lines-i : goal.bounds-lines-i
bounds-lines-i c =
    let z = scanned c.args.layout c.args.rows.now c.requires.1 c.cover_from-i.ensures c.cover_from-j.ensures in
    omega (arith, z.order, z.within)

pub offset_bounds-lines-j : goal.offset_bounds-lines-j
offset_bounds-lines-j c =
    let z = scanned c.args.layout c.args.rows.now c.requires.1 c.cover_from-i.ensures c.cover_from-j.ensures in
    search rules

pub bounds-lines-j : goal.bounds-lines-j
bounds-lines-j c =
    let z = scanned c.args.layout c.args.rows.now c.requires.1 c.cover_from-i.ensures c.cover_from-j.ensures in
    omega (arith, z.order, z.within)

pub offset_bounds-rows-i : goal.offset_bounds-rows-i
offset_bounds-rows-i c =
    let z = scanned c.args.layout c.args.rows.now c.requires.1 c.cover_from-i.ensures c.cover_from-j.ensures in
    search rules

pub bounds-rows-i : goal.bounds-rows-i
bounds-rows-i c =
    let z = scanned c.args.layout c.args.rows.now c.requires.1 c.cover_from-i.ensures c.cover_from-j.ensures in
    omega (arith, z.order, z.within)

pub offset_bounds-rows-j : goal.offset_bounds-rows-j
offset_bounds-rows-j c =
    let z = scanned c.args.layout c.args.rows.now c.requires.1 c.cover_from-i.ensures c.cover_from-j.ensures in
    search rules

pub bounds-rows-j : goal.bounds-rows-j
bounds-rows-j c =
    let z = scanned c.args.layout c.args.rows.now c.requires.1 c.cover_from-i.ensures c.cover_from-j.ensures in
    omega (arith, z.order, z.within)

pub returns : goal.returns
returns c =
    let z = scanned c.args.layout c.args.rows.now c.requires.1 c.cover_from-i.ensures c.cover_from-j.ensures in
    let p = c.put_both-a.ensures in
    let q = c.put_rows.ensures in
    (overlap-text c.args.lines.now z (then p.0 q.0), q.1)
