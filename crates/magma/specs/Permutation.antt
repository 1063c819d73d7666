-- What the test of a row gives: the law of a cipher rests on it. Assumes nothing.
use Rattle.std.specs.Prelude.{◌≡◌, ℕ, zero, suc, ◌%◌, ◌<◌, ◌&&◌, T, List, [], ◌∷◌, length, ◌==◌, nat_lt, slice_index}
use Rattle.std.proofs.Common.{le_of_suc-le-suc, not-suc-le-zero, arith, eqb→eq, ltb→lt}
use Rattle.cipher.proofs.Every.{left, right}
use Rattle.magma.specs.Rows.{all_below, has_all, permutation}

below : (n : ℕ) (xs : List ℕ) → T (all_below n xs) → (k : ℕ) → k < length xs → slice_index xs k < n
below n [] t k h = absurd (not-suc-le-zero h)
below n (x ∷ xs) t zero h = ltb→lt x n (left (nat_lt x n) (all_below n xs) t)
below n (x ∷ xs) t (suc k) h = below n xs (right (nat_lt x n) (all_below n xs) t) k (le_of_suc-le-suc h)

-- what stands in a row is a nibble
pub nibble_below : (row : List ℕ) (a : ℕ) → T (permutation row) → slice_index row (a % 16) < 16
nibble_below row a t =
    let more = all_below 16 row && has_all row 16 in
    let e : length row ≡ 16 = eqb→eq (length row) 16 (left (length row == 16) more t) in
    below 16 row (left (all_below 16 row) (has_all row 16) (right (length row == 16) more t)) (a % 16) (omega arith)
