use native.Mathlib.Omega.{arith}
use mathlib.Core.Path.{sym, ◌∙◌}
use native.Mathlib.Nat.{zero-add}
use lib.Seq.{length-take-le}
use Rattle.leafcases.specs.Parse.{word_length, parsed_line}
use Rattle.leafcases.proofs.Text.{split-word, word-within}
use Rattle.leafcases.proofs.parse.parsed.Goals as goal

pub slice_bounds-kind_of-end : goal.slice_bounds-kind_of-end
slice_bounds-kind_of-end c =
    let s = c.args.s.now in
    sym (length-take-le c.word_end-end.result s (omega (arith, c.word_end-end.ensures, word-within s)))

pub returns-in_default : goal.returns-in_default
unfolding parsed_line
returns-in_default c =
    let s = c.args.s.now in
    let e = rw (zero-add (word_length s)) at c.word_end-end.ensures in
    let v = rw e at c.values_from.ensures in
    rw (c.bad_line.ensures, split-word s, sym v ∙ c.in_default.is)

pub returns : goal.returns
unfolding parsed_line
returns c =
    let s = c.args.s.now in
    let e = rw (zero-add (word_length s)) at c.word_end-end.ensures in
    let k = rw e at c.kind_of-kind.ensures in
    let v = rw e at c.values_from.ensures in
    rw (split-word s, sym v ∙ c.in-Some.is, c.kind_with.ensures, k)
