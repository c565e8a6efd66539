use Rattle.expiry.proofs.Round.{Round}
use Rattle.expiry.proofs.sweep_subs.Given as goal

abbrev pub invariant-loop-i : goal.invariant-loop-i
invariant-loop-i l = Round l.most l.by l.initial.subs l.initial.rows l.d l.gone l.subs l.rows l.w l.base l.i
