use mathlib.Core.Path.{sym}
use Rattle.layouttext.proofs.Lines.{words_row, words-none, words-few}
use Rattle.layouttext.proofs.end_of_words.Goals as goal

pub returns-then-n-eq3 : goal.returns-then-n-eq3
returns-then-n-eq3 c = let a = c.args in sym (words_row a.n a.row c.if-n-eq3.true)

pub returns-then-n-eq0 : goal.returns-then-n-eq0
returns-then-n-eq0 c = let a = c.args in sym (words-none a.n a.row c.if-n-eq3.false c.if-n-eq0.true)

pub returns : goal.returns
returns c = let a = c.args in sym (words-few a.n a.row c.if-n-eq3.false c.if-n-eq0.false)
