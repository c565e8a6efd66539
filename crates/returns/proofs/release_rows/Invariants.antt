use Prim.Native.Nat.{◌-◌}
use Rattle.returns.proofs.Freeing.{Freeing}
use Rattle.returns.proofs.release_rows.Given as goal

abbrev pub invariant-loop : goal.invariant-loop
invariant-loop l = Freeing l.clock l.id l.fn.before l.initial.subs l.initial.rows l.i (l.end - l.counter) l.d l.subs l.rows
