use Rattle.std.proofs.Common.{rules, ◌-◌, ◌/◌, ap, fold, length, ◌∙◌, arith}
use Rattle.std.proofs.lemmas.Iterator.{YieldsList-from_slice}
use Rattle.aes.specs.Aes.{add_round_key, round, rounds, last_round, cipher}
use Rattle.aes.proofs.Keys.{rounds_fold}
use Rattle.aes.proofs.Maps.{folded_bytes}
use Rattle.aes.proofs.rounds.cipher.Goals as goal

pub returns : goal.returns
unfolding cipher
returns c =
    let w = c.args.w.now in
    let b = c.args.block.now in
    let n = length w / 4 - 2 in
    let keys = c.round_keys.ensures in
    let begun = c.add_round_key-s.ensures ∙ (λ j. add_round_key (c.from_bytes.ensures j) (keys.first j)) in
    let done = folded_bytes _ round (λ a x r q k. search rules) c.add_round_key-s.result c.fold.result
    (YieldsList-from_slice c.round_keys.result.1.now cc) c.fold.ensures.ran in
    let all = done ∙ (λ j. fold round (begun j) (keys.middle j)) ∙ rounds_fold w b n ∙ ap (λ k. rounds k w b) (omega arith) in
    c.to_bytes.ensures ∙ c.last_round.ensures ∙ (λ j. last_round (all j) (keys.last j))
