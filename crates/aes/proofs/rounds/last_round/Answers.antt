use Rattle.std.proofs.Common.{rules, List, ℕ, [], map, length, ap, ◌∙◌}
use Rattle.std.specs.List.{flat_map}
use Rattle.aes.specs.Aes.{s_box, last_round, add_round_key}
use Rattle.aes.proofs.Maps.{mapped_bytes}
use Rattle.aes.proofs.rounds.last_round.Goals as goal

pub returns : goal.returns
unfolding last_round
returns c =
    let f : List ℕ → List ℕ = map s_box in
    let e = c.shift_rows.ensures in
    let shifted = mapped_bytes _ f (λ p q x y k. search rules) [] c.shift_rows.result c.map.result 4 (ap length e) c.map.ensures.items ∙ ap (flat_map f) e in
    c.add_round_key.ensures ∙ ap (λ (b : List ℕ). add_round_key b c.args.k.now) shifted
