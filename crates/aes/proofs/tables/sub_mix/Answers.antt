use Rattle.aes.specs.Field.{◌•◌, x_times, inverse}
use Rattle.aes.specs.Aes.{s_box}
use Rattle.aes.specs.declared.tables.TheConstants.{SUB_MIX}
use Rattle.cipher.proofs.Every.{tabled}
use Rattle.aes.specs.Words.{entry}
use Rattle.aes.proofs.tables.sub_mix.Goals as goal

pub returns : goal.returns
unfolding s_box inverse ◌•◌ x_times
returns c = tabled (λ y. entry 2 1 1 3 (s_box y)) c.args.y SUB_MIX tt c.ranges.y.fits
