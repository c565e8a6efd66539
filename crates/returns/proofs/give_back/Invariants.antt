use Prim.Native.Nat.{◌-◌}
use Rattle.model.specs.Model.{id_of}
use Rattle.returns.proofs.Giving.{Giving}
use Rattle.returns.proofs.give_back.Given as goal

abbrev pub invariant-loop : goal.invariant-loop
invariant-loop l = Giving l.clock l.last (id_of l.s.conn l.s.session l.s.value) l.base l.initial.d l.initial.subs l.initial.rows l.s.inflight (l.s.inflight - l.counter) l.d l.subs l.rows
