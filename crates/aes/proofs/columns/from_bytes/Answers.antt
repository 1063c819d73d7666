use Rattle.std.proofs.Common.{rules, ◌≡◌, get_or, ◌∙◌, arith}
use Rattle.cipher.specs.Bytes.{word_bytes}
use Rattle.aes.specs.Law.{spread}
use Rattle.aes.specs.Words.{four_at}
use Rattle.aes.proofs.States.{by_columns}
use Rattle.aes.proofs.columns.from_bytes.Goals as goal

pub returns : goal.returns
returns c =
    let b = c.args.block.now in
    let ws = c.map.result in
    let made = c.map.ensures.items.each in
    let e0 : word_bytes (get_or ws 0 0) ≡ four_at b 0 = search rules in
    let e1 : word_bytes (get_or ws 1 0) ≡ four_at b 4 = search rules in
    let e2 : word_bytes (get_or ws 2 0) ≡ four_at b 8 = search rules in
    let e3 : word_bytes (get_or ws 3 0) ≡ four_at b 12 = search rules in
    by_columns ws c.map.ensures.items.long e0 e1 e2 e3 ∙ spread b (omega arith)
