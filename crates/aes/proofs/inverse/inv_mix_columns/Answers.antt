use Rattle.std.proofs.Common.{rules, ◌≡◌, List, ℕ, length, sym, refl, ap, ◌∙◌, arith}
use Rattle.std.specs.List.{flat_map}
use Rattle.cipher.specs.Bytes.{word_bytes}
use Rattle.aes.specs.Aes.{circulant, inv_mix_columns}
use Rattle.aes.proofs.Maps.{mapped_bytes}
use Rattle.aes.proofs.States.{four, by_columns}
use Rattle.aes.proofs.inverse.inv_mix_columns.Goals as goal

pub returns : goal.returns
returns c =
    let s : List ℕ = c.args.s in
    let long : length s ≡ 4 = omega arith in
    let f : ℕ → List ℕ = λ w. circulant 0x0e 0x0b 0x0d 0x09 (word_bytes w) in
    mapped_bytes _ f (λ p q x y k. search rules) 0 s c.map.result 4 long c.map.ensures.items
    ∙ ap (flat_map f) (four s long) ∙ sym (ap inv_mix_columns (by_columns s long refl refl refl refl))
