use Rattle.std.proofs.Common.{rules, ◌*◌, ap, ◌∙◌}
use Rattle.cipher.specs.Bytes.{word}
use Rattle.magma.proofs.Made.{all}
use Rattle.magma.specs.Magma.{key_bytes}
use Rattle.magma.proofs.WordsAndBytes.{chunk_word, key_again}
use Rattle.magma.proofs.words.key_words.Goals as goal

pub returns : goal.returns
returns c =
    let key = c.args.key.now in
    let chunks = c.as_chunks.ensures.front in
    let value = all _ _ 8 (λ k. word key (4 * k)) (λ i y q l r. let e = chunk_word 8 i key l in (search rules, search rules)) c.from_fn.result c.from_fn.ensures.items in
    record { value = value; bytes = ap key_bytes value ∙ key_again key c.fits-key c.told-key }
