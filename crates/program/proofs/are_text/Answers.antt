use Rattle.std.proofs.Common.{rules, tests, ◌∙◌}
use Rattle.std.proofs.lemmas.Iterator.{YieldsList-from_slice}
use Rattle.std.proofs.lemmas.Iterator.Search.{all_from_yields_List}
use Rattle.program.specs.Asked.{is_text_byte}
use Rattle.program.proofs.Laws.{all-text}
use Rattle.program.proofs.are_text.Goals as goal

pub returns : goal.returns
returns c = all_from_yields_List is_text_byte _ _ c.all.result c.all.ensures.ran (YieldsList-from_slice c.args.part.now cc) (λ x b q k. search (rules, tests)) ∙ all-text c.args.part.now
