use Prim.Native.Nat.{ℕ}
use mathlib.Core.List.{List}
use lib.ListN.{take}
use Rattle.fates.specs.Blocks.{Block}
use Rattle.stationcalls.specs.Parts.{lent_all}
use Rattle.stationreport.specs.Gathering.{left_from}
use Rattle.stationreport.proofs.Noted.{start-rest, open-rest, goes_on, left-rest}
use Rattle.stationreport.proofs.put_rest.Goals as goal

pub returns-then-code-eq-START : goal.returns-then-code-eq-START
returns-then-code-eq-START c =
    let a = c.args in
    let left : ℕ → List Block = left_from (lent_all a.heads.now a.subs.now a.rows.now a.own.now) a.lists.now a.counts.now (take a.letters a.told.now) a.number a.code a.words in
    let both = start-rest a.code a.number left a.at a.out.now a.gone.now c.if-code-eq-START.true c.begin.ensures in record { puts = both.0; gone_after = both.1 }

pub returns-then-code-eq-OPEN : goal.returns-then-code-eq-OPEN
returns-then-code-eq-OPEN c =
    let a = c.args in
    let left : ℕ → List Block = left_from (lent_all a.heads.now a.subs.now a.rows.now a.own.now) a.lists.now a.counts.now (take a.letters a.told.now) a.number a.code a.words in
    let both = open-rest a.code a.number left a.at a.out.now a.gone.now c.if-code-eq-START.false c.if-code-eq-OPEN.true c.begin-then-code-eq-OPEN.ensures in record { puts = both.0; gone_after = both.1 }

pub put_left-requires : goal.put_left-requires
put_left-requires c =
    let a = c.args in record { within = (c.requires.within.0, c.requires.within.1, c.requires.within.2 (goes_on a.code c.if-code-eq-START.false c.if-code-eq-OPEN.false)); few_held = c.requires.few_held }

pub returns : goal.returns
returns c =
    let a = c.args in
    let left : ℕ → List Block = left_from (lent_all a.heads.now a.subs.now a.rows.now a.own.now) a.lists.now a.counts.now (take a.letters a.told.now) a.number a.code a.words in
    let k = c.put_left in
    let both = left-rest a.code a.number left a.at a.out.now a.gone.now c.if-code-eq-START.false c.if-code-eq-OPEN.false k.ensures.puts k.ensures.gone_after in record { puts = both.0; gone_after = both.1 }
