use Rattle.aes.specs.Field.{◌•◌, x_times, inverse}
use Rattle.aes.specs.Aes.{inv_s_box}
use Rattle.aes.specs.SBoxes.{inv_s_box_s_box}
use Rattle.aes.specs.declared.inverse_tables.TheConstants.{INV_S_BOX}
use Rattle.cipher.proofs.Every.{tabled}
use Rattle.aes.proofs.inverse_tables.inv_s_box.Goals as goal

pub returns : goal.returns
unfolding inv_s_box inverse ◌•◌ x_times
returns c = record {
  value = tabled inv_s_box c.args.y INV_S_BOX tt c.ranges.y.fits;
  inverse = inv_s_box_s_box c.args.y c.ranges.y.fits;
}
