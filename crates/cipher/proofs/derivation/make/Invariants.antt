use Rattle.std.proofs.Common.{◌≡◌, ◌*◌, take}
use Rattle.std.specs.List.{range_with_len, flat_map}
use Rattle.cipher.specs.KeyBlocks.{block}
use Rattle.cipher.proofs.derivation.make.Given as goal

abbrev pub invariant-loop-j : goal.invariant-loop-j
invariant-loop-j g l =
    let m = g.C.BlockCipher.model in
    take (l.j * l.n) l.out ≡ flat_map (λ j. m.enc l.key (block m.block l.blocks j)) (range_with_len 0 l.j)
