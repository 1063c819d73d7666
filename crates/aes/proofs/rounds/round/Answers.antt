use Rattle.std.proofs.Common.{rules, List, ℕ, [], map, length, ap, ◌∙◌}
use Rattle.std.specs.List.{flat_map}
use Rattle.aes.specs.Aes.{s_box, circulant, round, add_round_key}
use Rattle.aes.proofs.Maps.{mapped_bytes}
use Rattle.aes.proofs.rounds.round.Goals as goal

pub returns : goal.returns
unfolding round
returns c =
    let f : List ℕ → List ℕ = λ b. circulant 2 3 1 1 (map s_box b) in
    let e = c.shift_rows.ensures in
    let mixed = mapped_bytes _ f (λ p q x y k. search rules) [] c.shift_rows.result c.map.result 4 (ap length e) c.map.ensures.items ∙ ap (flat_map f) e in
    c.add_round_key.ensures ∙ ap (λ (b : List ℕ). add_round_key b c.args.k.now) mixed
