use Rattle.std.proofs.Common.{rules, ◌≡◌, ◌-◌, ◌/◌, reverse, ap, fold, length, ◌∙◌, arith}
use Rattle.std.proofs.lemmas.Iterator.Adapters.{YieldsList-from_rev_slice}
use Rattle.aes.specs.Aes.{add_round_key, round_key, inv_sub_bytes, inv_shift_rows, inv_round, inv_rounds, inv_cipher}
use Rattle.aes.proofs.Keys.{inv_rounds_fold}
use Rattle.aes.proofs.Maps.{folded_bytes}
use Rattle.aes.proofs.inverse.inv_cipher.Goals as goal

pub returns : goal.returns
unfolding inv_cipher
returns c =
    let w = c.args.w.now in
    let b = c.args.block.now in
    let n = length w / 4 - 2 in
    let m : n ≡ length w / 4 - 1 - 1 = omega arith in
    let keys = c.round_keys.ensures in
    let begun = c.add_round_key-s.ensures ∙ (λ j. add_round_key (c.from_bytes.ensures j) (keys.last j)) in
    let start = add_round_key b (round_key w (length w / 4 - 1)) in
    let done = folded_bytes _ inv_round (λ a x r q k. search rules) c.add_round_key-s.result c.fold-s.result
    (YieldsList-from_rev_slice c.round_keys.result.1.now cc) c.fold-s.ensures.ran in
    let all = done ∙ (λ j. fold inv_round (begun j) (reverse (keys.middle j))) ∙ inv_rounds_fold w n start ∙ ap (λ k. inv_rounds k w start) m in
    c.to_bytes.ensures ∙ c.add_round_key.ensures
    ∙ (λ j. add_round_key ((c.inv_shift_sub.ensures ∙ ap (λ u. inv_sub_bytes (inv_shift_rows u)) all) j) (keys.first j))
