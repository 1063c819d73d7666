use Rattle.aes.specs.Field.{◌•◌, x_times, inverse}
use Rattle.aes.specs.Aes.{s_box}
use Rattle.aes.specs.SBoxes.{inverts}
use Rattle.aes.specs.declared.tables.TheConstants.{S_BOX}
use Rattle.cipher.proofs.Every.{tabled}
use Rattle.aes.proofs.tables.s_box.Goals as goal

pub returns : goal.returns
unfolding s_box inverse ◌•◌ x_times
returns c = record {
  value = tabled s_box c.args.y S_BOX tt c.ranges.y.fits;
  inverse = inverts c.args.y c.ranges.y.fits;
}
