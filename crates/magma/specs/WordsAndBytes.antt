-- The words of a block, and their bytes: the law of a cipher rests on it. Assumes nothing.
use Rattle.std.specs.Prelude.{◌≡◌, ℕ, ◌<◌, List, ◌++◌, length, slice_index, refl}
use Rattle.std.proofs.Common.{sym, ◌∙◌}
use Rattle.std.proofs.lemmas.List.FromFn.{fill_by_all}
use Rattle.cipher.proofs.Words.{bytes_word}
use Rattle.magma.specs.Magma.{halves, whole}

module _ (b : List ℕ) (small : (k : ℕ) → slice_index b k < 256) where
  pub whole_halves : length b ≡ 8 → whole (halves b) ≡ b
  whole_halves h = (λ j. bytes_word b small 0 j ++ bytes_word b small 4 j) ∙ sym (fill_by_all (λ k. slice_index b k) b 8 0 h (λ k l. refl))
