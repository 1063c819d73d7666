use Rattle.std.proofs.Common.{rules, ◌≡◌, ◌/◌, ℕ, List, ◌++◌, length, take, fold, sym, ap, ◌∙◌, append-nil, arith}
use Rattle.std.proofs.lemmas.List.{drop_all}
use Rattle.std.specs.Int.Bits.{bit_xor}
use Rattle.std.specs.Int.{bytes_high_first}
use Rattle.std.specs.Simd.{first_chunks}
use Rattle.std.proofs.lemmas.Iterator.{YieldsList-from_slice}
use Rattle.std.proofs.lemmas.Iterator.Consumers.{fold_from_yields_List}
use Rattle.aes.specs.Aes.{enc256, the_model}
use Rattle.aes.specs.Words.{bytes_of}
use Rattle.aes.proofs.Keys.{chunks}
use Rattle.cipher.specs.Bytes.{word}
use Rattle.speed.specs.Counter.{enciphered, folded}
use Rattle.speed.proofs.Sums.{regrouped, wide}
use Rattle.speed.proofs.turn.Goals as goal

pub returns : goal.returns
unfolding folded
returns c =
    let key = bytes_of (take 8 c.args.cipher.now.words) in
    let block : List ℕ = c.as_slice.result.now in
    let long : length block ≡ 16 = c.as_slice.ensures.len in
    let h : ℕ → List ℕ → ℕ = λ sum w. bit_xor sum (word w 0) in
    let count : length block / 4 ≡ 4 = omega arith in
    let words = c.as_chunks.ensures.front ∙ ap (λ n. first_chunks 4 n block) count ∙ chunks 4 block (omega arith) in
    let b = c.to_be_bytes.result in
    let began = c.to_be_bytes.ensures ∙ ap (bytes_high_first 16) c.from.ensures ∙ wide c.args.i c.ranges.i.fits in
    let whole : enc256 key (take 16 b) ≡ enciphered the_model key b =
    sym (append-nil (enc256 key (take 16 b))) ∙ ap (λ x. enc256 key (take 16 b) ++ x) (sym (drop_all 16 b (omega arith))) in
    fold_from_yields_List _ h 0 _ c.fold.ensures.ran (YieldsList-from_slice c.as_chunks.result.0.now cc) (λ a x b q k. search rules)
    ∙ ap (fold h 0) words ∙ regrouped (word block 0) (word block 4) (word block 8) (word block 12)
    ∙ ap folded (c.as_slice.ensures.value ∙ c.encipher.ensures ∙ ap (enc256 key) c.new-block.ensures ∙ whole ∙ ap (enciphered the_model key) began)
