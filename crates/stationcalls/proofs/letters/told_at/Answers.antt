use mathlib.Core.List.{[]}
use lib.ListN.{get_or}
use Rattle.definition.specs.Words.{at}
use Rattle.stationcalls.proofs.Becoming.{told-known, told-unknown}
use Rattle.stationcalls.proofs.letters.told_at.Goals as goal

pub returns-then-i-many : goal.returns-then-i-many
returns-then-i-many c = let a = c.args in told-known (at 0 (get_or a.dead.now a.i [])) a.letters.now a.places.now a.many a.i c.if-i-many.true c.requires.2

pub returns : goal.returns
returns c = let a = c.args in told-unknown (at 0 (get_or a.dead.now a.i [])) a.letters.now a.places.now a.many a.i c.if-i-many.false
