use Rattle.std.proofs.Common.{rules, ◌<◌, map, ◌∙◌, sym, arith}
use mathlib.Core.List.{map-map}
use Rattle.std.proofs.lemmas.List.{length-map}
use Rattle.std.proofs.ByRecursion.{All-map, All-from_get_or}
use Rattle.aes.specs.Aes.{s_box}
use Rattle.aes.specs.SBoxes.{s_box_below}
use Rattle.aes.specs.Words.{entry}
use Rattle.aes.proofs.Maps.{mapped}
use Rattle.aes.proofs.rounds.mix_column.Goals as goal

pub returns : goal.returns
returns c =
    let column = c.args.column in
    let small = All-map (λ x. x < 256) s_box column (All-from_get_or (λ x. s_box x < 256) column 0 (λ k l. s_box_below _)) in
    let words = mapped _ (λ x. entry 2 1 1 3 (s_box x)) (λ p q x y k. search rules) 0 column c.map.result 4 (omega arith) c.map.ensures.items in
    c.multiply.ensures 2 1 1 3 (map s_box column) (record { long = length-map column s_box ∙ omega arith; small = small })
    (words ∙ sym (map-map (entry 2 1 1 3) s_box column))
