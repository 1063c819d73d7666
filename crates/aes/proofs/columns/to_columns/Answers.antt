use Rattle.std.proofs.Common.{rules, ◌≡◌, List, ℕ, map, length, sym, refl, ap, ◌∙◌, arith}
use Rattle.cipher.specs.Bytes.{word_bytes}
use Rattle.aes.specs.Words.{columns}
use Rattle.aes.proofs.Maps.{mapped}
use Rattle.aes.proofs.States.{four, by_columns}
use Rattle.aes.proofs.columns.to_columns.Goals as goal

pub returns : goal.returns
returns c =
    let s : List ℕ = c.args.s in
    let long : length s ≡ 4 = omega arith in
    mapped _ word_bytes (λ p q x y k. search rules) 0 s c.map.result 4 long c.map.ensures.items
    ∙ ap (map word_bytes) (four s long) ∙ sym (ap columns (by_columns s long refl refl refl refl))
