use Rattle.std.proofs.Common.{rules, List, ℕ, [], map, length, ap, ◌∙◌}
use Rattle.std.specs.List.{flat_map}
use Rattle.aes.specs.Aes.{inv_s_box}
use Rattle.aes.proofs.Maps.{mapped_bytes}
use Rattle.aes.proofs.inverse.inv_shift_sub.Goals as goal

pub returns : goal.returns
returns c =
    let f : List ℕ → List ℕ = map inv_s_box in
    let e = c.inv_shift_rows.ensures in
    mapped_bytes _ f (λ p q x y k. search rules) [] c.inv_shift_rows.result c.map.result 4 (ap length e) c.map.ensures.items ∙ ap (flat_map f) e
