use Rattle.std.proofs.Common.{◌≡◌, ◌+◌, ◌-◌, ◌/◌, ◌%◌, [], ◌∷◌, ◌++◌, length, take, set, reverse, sym, ap, ◌∙◌, arith}
use Rattle.std.proofs.lemmas.List.{take_more_set, reverse-append}
use Rattle.cipher.specs.Bytes.{number}
use Rattle.cipher.proofs.Numbers.{number_less}
use Rattle.cipher.proofs.derivation.write_number.Goals as goal

pub loop-byte-preserved : goal.loop-byte-preserved
loop-byte-preserved c =
    let left = length c.args.block.now - c.loop-byte.byte-index in
    let b = c.loop-byte.block in
    let x = c.loop-byte.rest % 256 in
    let written = reverse (take c.loop-byte.byte-index b) in
    let less : left - 1 ≡ length c.args.block.now - (c.loop-byte.byte-index + 1) = omega arith in
    let more : x ∷ written ≡ reverse (take (c.loop-byte.byte-index + 1) (set b c.loop-byte.byte-index x)) =
    sym (ap reverse (take_more_set b c.loop-byte.byte-index x (omega arith)) ∙ reverse-append (take c.loop-byte.byte-index b) (x ∷ [])) in
    c.loop-byte.invariant ∙ number_less left c.loop-byte.rest written (omega arith) ∙ (λ i. number (less i) (c.loop-byte.rest / 256) ++ more i)
