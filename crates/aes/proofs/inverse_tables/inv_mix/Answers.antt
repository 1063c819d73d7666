use Rattle.aes.specs.Field.{◌•◌, x_times}
use Rattle.aes.specs.declared.inverse_tables.TheConstants.{INV_MIX}
use Rattle.cipher.proofs.Every.{tabled}
use Rattle.aes.specs.Words.{entry}
use Rattle.aes.proofs.inverse_tables.inv_mix.Goals as goal

pub returns : goal.returns
unfolding ◌•◌ x_times
returns c = tabled (entry 0x0e 0x09 0x0d 0x0b) c.args.y INV_MIX tt c.ranges.y.fits
