-- What was read so far stands behind the first bytes.
use Rattle.reading.specs.Read.{ReadInto}
use Rattle.reading.specs.declared.How.TheVariants.{Again}
use Rattle.reading.proofs.read_on.Given as goal

abbrev pub invariant-loop : goal.invariant-loop
invariant-loop g l = ReadInto l.fn.have l.fn.buf l.buf l.n Again
