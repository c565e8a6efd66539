use Prim.Native.Nat.{ℕ}
use mathlib.Core.Path.{sym}
use lib.ListN.{length-replicate}
use Rattle.stationfates.proofs.text.Goals as goal

pub returns : goal.returns
returns c = sym (length-replicate {A = ℕ} 1740800 0)
