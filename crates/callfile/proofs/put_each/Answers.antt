use Rattle.std.proofs.Common.{arith, ◌+◌, ◌-◌, length}
use Rattle.callfile.proofs.Parts.{copied}
use Rattle.callfile.proofs.put_each.Goals as goal

pub returns : goal.returns
returns c =
    let a = c.args in
    copied a.part.now c.copy_from_slice.new.self a.out.now a.at (a.at + length a.part.now - a.at) (cc) (omega arith) c.requires
