use Rattle.std.proofs.Common.{◌≡◌, ◌-◌, ◌/◌, length, sym, ◌∙◌, arith}
use Rattle.std.proofs.lemmas.List.{take_all}
use Rattle.aes.specs.Aes.{inv_cipher, dec256}
use Rattle.aes.proofs.Aes256BlockCipher.decipher.Goals as goal

pub returns : goal.returns
unfolding dec256
returns c =
    let b = c.block.inside.bytes in
    let self = c.args.self.now in
    let nr : length self.words / 4 - 1 ≡ 14 = omega arith in
    let is : b ≡ c.args.block.now = sym (take_all 16 b (omega arith)) ∙ c.block.view_is in
    take_all 16 c.inv_cipher-block-inside.result (omega arith) ∙ c.inv_cipher-block-inside.ensures ∙ (λ j. inv_cipher (is j) (nr j) (self.made j))
