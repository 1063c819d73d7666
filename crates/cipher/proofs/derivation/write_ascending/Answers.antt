use Rattle.std.proofs.Common.{◌≡◌, ◌<◌, length, sym, ◌∙◌, arith, ext_get_or}
use Rattle.std.specs.List.{range_with_len}
use Rattle.std.proofs.lemmas.List.FromFn.{length-range_with_len, get_or-range_with_len}
use Rattle.cipher.proofs.derivation.write_ascending.Goals as goal

pub returns : goal.returns
returns c =
    let b = c.loop-i.block in
    let a = c.args.first in
    let n = length c.args.block.now in
    let long = length-range_with_len a n in
    let same : length b ≡ n = omega arith in
    ext_get_or 0 b (range_with_len a n) (same ∙ sym long)
    (λ k h. let l : k < n = omega arith in c.loop-i.invariant k (omega arith) ∙ sym (get_or-range_with_len a n k 0 l))
