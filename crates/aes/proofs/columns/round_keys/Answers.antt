use Rattle.std.proofs.Common.{◌-◌, ◌/◌, [], drop, take, length, get_or, ap, ◌∙◌, arith}
use Rattle.std.proofs.lemmas.List.FromFn.{get_or-map-range_with_len}
use Rattle.aes.specs.Aes.{round_key}
use Rattle.aes.proofs.Keys.{chunks, middle_of}
use Rattle.aes.proofs.columns.round_keys.Goals as goal

pub returns-clause-middle : goal.returns-clause-middle
returns-clause-middle c =
    let w = c.args.w.now in
    let n = length w / 4 in
    let keys = c.as_chunks.ensures.front ∙ chunks n w (omega arith) in
    ap (λ k. take (k - 1 - 1) (drop 1 c.as_chunks.result.0.now)) c.as_chunks.ensures.front_len
    ∙ ap (λ ks. take (n - 1 - 1) (drop 1 ks)) keys ∙ middle_of (round_key w) n (omega arith)

pub returns-clause-last : goal.returns-clause-last
returns-clause-last c =
    let w = c.args.w.now in
    let n = length w / 4 in
    let keys = c.as_chunks.ensures.front ∙ chunks n w (omega arith) in
    ap (λ k. get_or c.as_chunks.result.0.now (k - 1) []) c.as_chunks.ensures.front_len ∙ ap (λ ks. get_or ks (n - 1) []) keys
    ∙ get_or-map-range_with_len (round_key w) 0 n (n - 1) (n - 1) [] (omega arith) (omega arith)
