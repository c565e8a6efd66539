use Rattle.std.proofs.Common.{arith, ◌≡◌, ◌+◌, ◌-◌, false}
use Rattle.running.specs.Files.{unread_as}
use Rattle.running.proofs.unread.Goals as goal

pub returns : goal.returns
unfolding unread_as
returns c =
    let a = c.args in
    let e : c.max.result ≡ a.from + (a.len - a.from) = omega arith in
    λ j. record { reading = record { have = a.at.have; number = a.at.number; index = a.at.index; goes_on = false }; next = e j; written = 0 }
