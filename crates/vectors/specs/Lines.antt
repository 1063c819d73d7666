-- How a line is kept while it is read. Assumes nothing.
use Rattle.std.specs.Prelude.{ℕ, cond, List, [], ◌∷◌, ◌++◌, length, nat_lt}

-- a byte more, up to one past the longest line
abbrev pub kept : List ℕ → ℕ → List ℕ
kept line b = cond (nat_lt (length line) 4097) (line ++ b ∷ []) line
