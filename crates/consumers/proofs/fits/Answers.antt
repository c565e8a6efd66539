use Rattle.std.proofs.Common.{rules}
use Rattle.consumers.specs.Table.{fitting}
use Rattle.consumers.proofs.fits.Goals as goal

pub returns-then-w-le-NUMBER_MOST : goal.returns-then-w-le-NUMBER_MOST
unfolding fitting
returns-then-w-le-NUMBER_MOST c = search rules

pub returns-else-w-le-NUMBER_MOST : goal.returns-else-w-le-NUMBER_MOST
unfolding fitting
returns-else-w-le-NUMBER_MOST c = search rules
