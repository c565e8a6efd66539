use mir.Syntax.{w64}
use mir.ValLaws.{to_z-of_z}
use mir.Val.{SFits}
use Rattle.state.specs.Answers.{told}
use Rattle.engine.proofs.Worded.{pull-clock, pull-performs}
use borrow.Author.Rules.{rules}
use Rattle.engine.proofs.asking.ask_pull.Goals as goal

pub pull-requires : goal.pull-requires
pull-requires c =
    let a = c.args in
    let p = c.requires in
    (p.0, pull-clock a.w p.1)

pub returns : goal.returns
returns c =
    let a = c.args in
    let p = c.requires in
    let k = c.pull in
    let x = c.signed_of-timeout.result in
    let f : SFits w64 x = search rules in
    let e = rw (to_z-of_z w64 x f) at k.ensures in
    pull-performs a.w a.d (told a.d k.result) a.subs.now a.rows.now a.events.now k.new.subs k.new.rows k.new.events c.of_words-id.result c.of_words-id.ensures
    p.1 x c.signed_of-timeout.ensures e
