use mathlib.Core.Path.{sym, ap, ◌∙◌}
use Rattle.shares.specs.Shares.{within_each}
use Rattle.sound.proofs.Connected.{shares-full}
use Rattle.sound.proofs.shares_ok.Goals as goal

pub returns-then-others-rest : goal.returns-then-others-rest
returns-then-others-rest c =
    let a = c.args in
    sym (shares-full a.rest a.subs.now a.rows.now a.share a.others a.on_queue c.requires.others_value c.if-others-rest.true)

pub returns : goal.returns
returns c =
    let a = c.args in
    c.within.ensures ∙ ap (within_each a.share) c.own_conns-end.ensures
