-- Bytes, and numbers written in bytes. Assumes nothing.
use Rattle.std.specs.Prelude.{◌≡◌, ℕ, zero, suc, ◌+◌, ◌*◌, ◌/◌, ◌%◌, ◌^◌, ◌<◌, List, [], ◌∷◌, length, slice_index}
use Rattle.std.specs.List.{AllByRecursion}

-- n bytes
pub record Bytes (n : ℕ) (b : List ℕ) : Type 0 where
  pub long : length b ≡ n
  pub small : AllByRecursion (λ x. x < 256) b

-- the number t in n bytes, highest byte first
abbrev pub number : ℕ → ℕ → List ℕ
number zero t = []
number (suc n) t = t / 256 ^ n % 256 ∷ number n t

-- a word of 32 bits in four bytes, highest byte first
abbrev pub word_bytes : ℕ → List ℕ
word_bytes w = (w / 16777216 % 256) ∷ (w / 65536 % 256) ∷ (w / 256 % 256) ∷ (w % 256) ∷ []

-- the word that stands in the bytes of b from i on
abbrev pub word : List ℕ → ℕ → ℕ
word b i = slice_index b i * 16777216 + slice_index b (i + 1) * 65536 + slice_index b (i + 2) * 256 + slice_index b (i + 3)
