use Rattle.magma.proofs.Tables.{in_table}
use Rattle.magma.proofs.substitution.by_table.Goals as goal

pub returns : goal.returns
returns c = in_table c.args.i c.args.b c.requires c.ranges.b.fits
