-- Two rows at a time: what a table of bytes has to be, by a test that antt computes. Assumes nothing.
use Rattle.std.specs.Prelude.{ℕ, ◌+◌, ◌*◌, Bool, List, [], ◌∷◌, nat_eq, slice_index_or}
use Rattle.cipher.specs.Tables.{every}
use Rattle.magma.specs.Magma.{Pi', substituted}

-- what rows 2i and 2i + 1 make of a byte
abbrev pub pair : ℕ → ℕ → ℕ
pair i b = substituted (slice_index_or Pi' (2 * i) [] ∷ slice_index_or Pi' (2 * i + 1) [] ∷ []) b

-- the table has that at each byte
abbrev pub paired : ℕ → List ℕ → Bool
paired i table = every (λ b x. nat_eq x (pair i b)) 0 table
