use Rattle.std.proofs.Common.{◌≡◌, ◌+◌, ◌-◌, ◌<◌, ap, ◌∙◌, arith}
use Rattle.aes.specs.Field.{◌•◌, x_times}
use Rattle.aes.specs.Aes.{rcon}
use Rattle.aes.specs.declared.tables.TheConstants.{RCON}
use Rattle.cipher.proofs.Every.{tabled}
use Rattle.aes.proofs.tables.rcon.Goals as goal

pub returns : goal.returns
unfolding rcon ◌•◌ x_times
returns c =
    let h : c.args.j - 1 < 10 = omega arith in
    let e : c.args.j - 1 + 1 ≡ c.args.j = omega arith in
    tabled (λ i. rcon (i + 1)) (c.args.j - 1) RCON tt h ∙ ap rcon e
