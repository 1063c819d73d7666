use Rattle.std.proofs.Common.{sym, ap, ◌∙◌}
use Rattle.magma.specs.Magma.{enc, rounds, round_keys, halves, whole}
use Rattle.magma.proofs.WordsAndBytes.{halves_front}
use Rattle.magma.proofs.MagmaBlockCipher.encipher.Goals as goal

pub returns : goal.returns
unfolding enc
returns c =
    let ks = sym c.args.self.now.kept in
    let a = c.halves-a.ensures ∙ sym (halves_front c.block.inside.bytes) ∙ ap halves c.block.view_is in
    c.whole-block-inside.ensures.value ∙ ap whole (c.encipher_halves.ensures ∙ (λ j. rounds (round_keys (ks j)) (a j)))
