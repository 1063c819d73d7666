use Rattle.std.proofs.Common.{rules, ℕ, take, refl, ◌∙◌, arith}
use Rattle.aes.specs.Aes.{the_model}
use Rattle.aes.specs.Words.{bytes_of}
use Rattle.std.specs.Int.Bits.{bit_xor}
use Rattle.std.proofs.lemmas.Iterator.{YieldsList-from_range}
use Rattle.std.proofs.lemmas.Iterator.Consumers.{fold_from_yields_List}
use Rattle.speed.specs.Counter.{counter, enciphered, folded}
use Rattle.speed.proofs.Sums.{checksum_fold}
use Rattle.speed.proofs.sum.Goals as goal

pub returns : goal.returns
returns c =
    let key = bytes_of (take 8 c.args.cipher.now.words) in
    let h : ℕ → ℕ → ℕ = λ sum i. bit_xor sum (folded (enciphered the_model key (counter i))) in
    fold_from_yields_List _ h 0 _ c.fold.ensures.ran (YieldsList-from_range 0 c.args.count c.args.count refl (omega arith)) (λ a x b q k. search rules)
    ∙ checksum_fold the_model key c.args.count
