-- States and keys as the code holds them, in words. Assumes nothing.
use Rattle.std.specs.Prelude.{ℕ, ◌+◌, List, [], ◌∷◌, map, slice_index}
use Rattle.std.specs.List.{flat_map, range_with_len}
use Rattle.cipher.specs.Bytes.{word, word_bytes}
use Rattle.aes.specs.Aes.{column}
use Rattle.aes.specs.Field.{◌•◌}

-- the four bytes of b from i on
abbrev pub four_at : List ℕ → ℕ → List ℕ
four_at b i = slice_index b i ∷ slice_index b (i + 1) ∷ slice_index b (i + 2) ∷ slice_index b (i + 3) ∷ []

-- the bytes of the words w: of a state, a word for each column, and of a key
unfoldable pub bytes_of : List ℕ → List ℕ
bytes_of w = flat_map word_bytes w

-- the columns of a state, four bytes each
abbrev pub columns : List ℕ → List (List ℕ)
columns s = map (column s) (range_with_len 0 4)

-- the word of the four products of a byte and a matrix's first column
abbrev pub entry : (p q r s : ℕ) → ℕ → ℕ
entry p q r s a = word (p • a ∷ q • a ∷ r • a ∷ s • a ∷ []) 0
