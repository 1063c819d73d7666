use Rattle.std.proofs.Common.{rules, ℕ, length, refl, map, ap, ◌∙◌}
use Rattle.cipher.specs.Bytes.{word_bytes}
use Rattle.cipher.proofs.Words.{small_bytes}
use Rattle.aes.specs.Words.{entry}
use Rattle.aes.proofs.Maps.{mapped}
use Rattle.aes.proofs.inverse.inv_mix_column.Goals as goal

pub returns : goal.returns
returns c =
    let w = c.args.w in
    let f : ℕ → ℕ = entry 0x0e 0x09 0x0d 0x0b in
    let words = mapped _ f (λ p q x y k. search rules) 0 c.to_be_bytes.result c.map.result 4 (ap length c.to_be_bytes.ensures) c.map.ensures.items in
    c.multiply.ensures 0x0e 0x09 0x0d 0x0b (word_bytes w) (record { long = refl; small = small_bytes w }) (words ∙ ap (map f) c.to_be_bytes.ensures)
