use Rattle.std.proofs.Common.{rules, ◌≡◌, ◌/◌, ◌%◌, get_or, arith}
use Rattle.magma.specs.Pairs.{pair}
use Rattle.magma.proofs.Paired.{by_pairs}
use Rattle.magma.proofs.substitution.by_bytes.Goals as goal

pub returns : goal.returns
returns g c =
    let a = c.args.a in
    let bytes = c.from_fn.result in
    let made = c.from_fn.ensures.items.each in
    let e0 : get_or bytes 0 0 ≡ pair 0 (a % 256) = search rules in
    let e1 : get_or bytes 1 0 ≡ pair 1 (a / 256 % 256) = search rules in
    let e2 : get_or bytes 2 0 ≡ pair 2 (a / 65536 % 256) = search rules in
    let e3 : get_or bytes 3 0 ≡ pair 3 (a / 16777216 % 256) = search rules in
    omega (arith, by_pairs a e0 e1 e2 e3)
