-- The words of a key and of a block, and their bytes. Assumes nothing.
use Rattle.std.specs.Prelude.{◌≡◌, ℕ, zero, suc, ◌+◌, ◌*◌, ◌<◌, List, [], ◌++◌, length, take, drop, slice_index, slice_index_or, refl}
use Rattle.std.specs.Simd.{first_chunks}
use Rattle.std.proofs.Common.{sym, ap, ◌∙◌, add_assoc, arith, get_or-drop}
use Rattle.std.proofs.lemmas.List.FromFn.{fill_by_all}
use Rattle.std.proofs.lemmas.List.{get_or-take}
use Rattle.cipher.specs.Bytes.{word}
use Rattle.cipher.proofs.Words.{word4, bytes_word}
use Rattle.magma.specs.Magma.{key_words, key_bytes, halves}

module _ (b : List ℕ) (small : (k : ℕ) → slice_index b k < 256) where
  pub key_again : length b ≡ 32 → key_bytes (key_words b) ≡ b
  key_again h =
      (λ j. bytes_word b small 0 j ++ (bytes_word b small 4 j ++ (bytes_word b small 8 j ++ (bytes_word b small 12 j
      ++ (bytes_word b small 16 j ++ (bytes_word b small 20 j ++ (bytes_word b small 24 j ++ (bytes_word b small 28 j ++ []))))))))
      ∙ sym (fill_by_all (λ k. slice_index b k) b 32 0 h (λ k l. refl))

word_front : (n : ℕ) (b : List ℕ) (i : ℕ) → i + 3 < n → word (take n b) i ≡ word b i
word_front n b i h =
    let e0 = get_or-take n b i 0 (omega arith) in
    let e1 = get_or-take n b (i + 1) 0 (omega arith) in
    let e2 = get_or-take n b (i + 2) 0 (omega arith) in
    let e3 = get_or-take n b (i + 3) 0 (omega arith) in
    λ j. word4 (e0 j) (e1 j) (e2 j) (e3 j)

-- the words of a block are those of the buffer that it stands in
pub halves_front : (b : List ℕ) → halves (take 8 b) ≡ halves b
halves_front b = let e1 = word_front 8 b 0 (omega arith) in let e0 = word_front 8 b 4 (omega arith) in λ j. (e1 j, e0 j)

word_past : (n : ℕ) (b : List ℕ) (i : ℕ) → word (drop n b) i ≡ word b (n + i)
word_past n b i = simp (get_or-drop, add_assoc)

-- the word in chunk k of a list cut into fours
pub chunk_word : (n k : ℕ) (b : List ℕ) → k < n → word (slice_index_or (first_chunks 4 n b) k []) 0 ≡ word b (4 * k)
chunk_word zero k b h = absurd (omega arith)
chunk_word (suc n) zero b h = word_front 4 b 0 (omega arith)
chunk_word (suc n) (suc k) b h =
    let e : 4 + 4 * k ≡ 4 * suc k = omega arith in
    chunk_word n k (drop 4 b) (omega arith) ∙ word_past 4 b (4 * k) ∙ ap (word b) e
