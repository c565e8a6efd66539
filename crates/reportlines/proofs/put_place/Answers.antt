use mathlib.Core.Path.{ap}
use Rattle.reportlines.specs.ReportLines.{place_name}
use Rattle.reportlines.proofs.Blocks.{name-put, cleared-name}
use native.Mathlib.Omega.{arith}
use Rattle.reportlines.proofs.put_place.Goals as goal

pub returns-in-0 : goal.returns-in-0
unfolding place_name
returns-in-0 c = let a = c.args in name-put a.place 0 (ap place_name c.in-0.is) (omega arith) c.requires c.put_all.ensures

pub returns-in-1 : goal.returns-in-1
unfolding place_name
returns-in-1 c = let a = c.args in name-put a.place 1 (ap place_name c.in-1.is) (omega arith) c.requires c.put_all-in-1.ensures

pub returns-in-2 : goal.returns-in-2
unfolding place_name
returns-in-2 c = let a = c.args in name-put a.place 2 (ap place_name c.in-2.is) (omega arith) c.requires c.put_all-in-2.ensures

pub returns-in-3 : goal.returns-in-3
unfolding place_name
returns-in-3 c = let a = c.args in name-put a.place 3 (ap place_name c.in-3.is) (omega arith) c.requires c.put_all-in-3.ensures

pub returns-in-4 : goal.returns-in-4
unfolding place_name
returns-in-4 c = let a = c.args in name-put a.place 4 (ap place_name c.in-4.is) (omega arith) c.requires c.put_all-in-4.ensures

pub returns-in-5 : goal.returns-in-5
unfolding place_name
returns-in-5 c = let a = c.args in name-put a.place 5 (ap place_name c.in-5.is) (omega arith) c.requires c.put_all-in-5.ensures

pub returns-in-6 : goal.returns-in-6
unfolding place_name
returns-in-6 c = let a = c.args in name-put a.place 6 (ap place_name c.in-6.is) (omega arith) c.requires c.put_all-in-6.ensures

pub returns-in_default : goal.returns-in_default
unfolding place_name
returns-in_default c =
    let a = c.args in
    let n = c.in_default.in_default-own.rest in
    name-put a.place 7 (cleared-name a.place n.0.0.0.0.0.0.1 n.0.0.0.0.0.1 n.0.0.0.0.1 n.0.0.0.1 n.0.0.1 n.0.1 n.1) (omega arith) c.requires c.put_all-in_default.ensures
