use mathlib.Core.Path.{◌∙◌}
use mir.Syntax.{w32}
use mir.Val.{SFits}
use mir.ValLaws.{to_z-of_z}
use Rattle.model.specs.Model.{id_of}
use Rattle.definition.specs.Words.{at}
use Rattle.engine.proofs.Handled.{join-int}
use borrow.Author.Rules.{rules}
use Rattle.engine.proofs.handling.spec_of.Goals as goal

pub returns : goal.returns
returns c =
    let a = c.args in
    let x = c.int_of-prefetch.result in
    let f : SFits w32 x = search rules in
    let e = to_z-of_z w32 x f ∙ c.int_of-prefetch.ensures ∙ join-int a.w c.requires (c.words_fit.ensures.word 3) in
    λ j. record {
      id = id_of (at 0 a.w) (at 1 a.w) (at 2 a.w);
      prefetch = e j;
      selector = at 4 a.w;
      no_local = c.flag_of-no_local.ensures j;
      browser = c.flag_of-browser.ensures j;
    }
