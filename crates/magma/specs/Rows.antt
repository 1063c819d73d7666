-- What a row of Magma's table has to be: a permutation of the nibbles, by a test that antt computes. Assumes nothing.
use Rattle.std.specs.Prelude.{ℕ, zero, suc, Bool, true, false, ◌&&◌, ◌||◌, List, [], ◌∷◌, length, ◌==◌, nat_lt}

-- n stands in xs
abbrev pub has : List ℕ → ℕ → Bool
has [] n = false
has (x ∷ xs) n = x == n || has xs n

-- each number below n stands in xs
abbrev pub has_all : List ℕ → ℕ → Bool
has_all xs zero = true
has_all xs (suc n) = has xs n && has_all xs n

-- each number of xs is below n
abbrev pub all_below : ℕ → List ℕ → Bool
all_below n [] = true
all_below n (x ∷ xs) = nat_lt x n && all_below n xs

-- sixteen nibbles, and each nibble is one of them
abbrev pub permutation : List ℕ → Bool
permutation xs = length xs == 16 && (all_below 16 xs && has_all xs 16)
