use Rattle.std.proofs.Common.{rules, tests}
use Rattle.report.proofs.Seeking.{find-next, find-before}
use Rattle.report.proofs.find.Goals as goal

pub returns-in-Some : goal.returns-in-Some
returns-in-Some c =
    let a = c.args in
    let s = c.in-Some.ensures in record { found = find-next a.seq a.blocks.now a.hint a.n c.requires.hint_le_n s.found; place = s.place }

pub returns-in-None : goal.returns-in-None
returns-in-None c =
    let a = c.args in
    let s = c.seek-in-None.ensures in record { found = find-before a.seq a.blocks.now a.hint a.n c.requires.hint_le_n c.in-None.ensures.found _ s.found; place = search (rules, tests) }
