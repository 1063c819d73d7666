use Rattle.std.proofs.Common.{List, ℕ, ap, ◌∙◌}
use Rattle.aes.specs.Aes.{add_round_key, inv_mix_columns, inv_round}
use Rattle.aes.proofs.inverse.inv_round.Goals as goal

pub returns : goal.returns
unfolding inv_round
returns c =
    c.inv_mix_columns.ensures ∙ ap inv_mix_columns (c.add_round_key.ensures ∙ ap (λ (t : List ℕ). add_round_key t c.args.k.now) c.inv_shift_sub.ensures)
