use Rattle.std.proofs.Common.{◌≡◌, ℕ, ◌+◌, ◌*◌, ◌/◌, ◌≤◌, List, length, take, sym, ap, ◌∙◌, arith}
use Rattle.std.specs.List.{range_with_len, flat_map}
use Rattle.cipher.specs.Derivation.{parts, made}
use Rattle.cipher.specs.KeyBlocks.{block}
use Rattle.std.proofs.lemmas.List.{length-take, length-drop}
use Rattle.cipher.proofs.Joining.{joined_step}
use Rattle.cipher.proofs.Sizes.{told_within, parts_all}
use Rattle.cipher.proofs.derivation.make.Goals as goal

pub loop-j-preserved : goal.loop-j-preserved
loop-j-preserved g c =
    let m = g.C.BlockCipher.model in
    let n = c.block_len-n.result in
    let j = c.loop-j.j in
    let part = c.copy_from_slice.new.self in
    let h : j * n + n ≤ 32 = told_within m g.met.C.BlockCipher.laws _ _ j c.block_len-n.ensures c.key_len.ensures c.loop-j-test.true in
    let long : length part ≡ n = c.copy_from_slice.auto.self ∙ simp (length-take, length-drop) (omega arith) in
    let is : part ≡ m.enc c.args.key.now (block m.block c.args.blocks j) =
    c.copy_from_slice.ensures.after ∙ c.as_slice.ensures.value ∙ c.enciphered-block.ensures
    ∙ ap (λ k. m.enc k (block m.block c.args.blocks j)) c.schedule-cipher.ensures in
    joined_step (λ i. m.enc c.args.key.now (block m.block c.args.blocks i)) n j c.loop-j.out part (omega arith) long is c.loop-j.invariant

pub returns : goal.returns
unfolding made
returns g c =
    let m = g.C.BlockCipher.model in
    let n = c.block_len-n.ensures in
    let told : c.loop-j.j ≡ c.key_len.result / c.block_len-n.result = omega arith in
    let j : c.loop-j.j ≡ parts m = told ∙ (λ i. c.key_len.ensures i / n i) in
    let f : ℕ → List ℕ = λ i. m.enc c.args.key.now (block m.block c.args.blocks i) in
    let whole : c.loop-j.j * c.block_len-n.result ≡ m.key = (λ i. j i * n i) ∙ parts_all m g.met.C.BlockCipher.laws in
    c.new.ensures ∙ ap (λ k. take k c.loop-j.out) (sym whole) ∙ c.loop-j.invariant ∙ ap (λ k. flat_map f (range_with_len 0 k)) j
