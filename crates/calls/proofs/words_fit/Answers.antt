use borrow.Author.Rules.{rules}
use Rattle.calls.proofs.Fitting.{words-fit}
use Rattle.calls.proofs.words_fit.Goals as goal

pub returns : goal.returns
returns c = record { eight = search rules; word = words-fit c.args.w _ c.well_formed.0.1.1 }
