-- The sums of the benchmark as folds. Assumes nothing.
use Rattle.std.specs.Prelude.{◌≡◌, ℕ, zero, suc, ◌/◌, ◌%◌, ◌^◌, ◌<◌, ◌≤◌, List, [], ◌∷◌, fold, refl}
use Rattle.std.specs.Int.Bits.{bit_xor, xor_assoc, xor_zero_l}
use Rattle.std.specs.List.{range_with_len}
use Rattle.std.proofs.Common.{sym, ap, ◌∙◌, add-one, lit≤, arith}
use Rattle.std.proofs.Math.Nat.{div-eq_of_lt}
use Rattle.std.specs.Int.{bytes_high_first}
use Rattle.std.proofs.lemmas.List.Sums.{fold-append}
use Rattle.cipher.specs.Bytes.{word_bytes}
use Rattle.cipher.specs.Model.{Model}
use Rattle.cipher.proofs.Joining.{counting_more}
use Rattle.speed.specs.Counter.{counter, enciphered, folded, checksum}

-- the sum of the numbers below n, enciphered
pub checksum_fold : (c : Model) (key : List ℕ) (n : ℕ)
    → fold (λ sum i. bit_xor sum (folded (enciphered c key (counter i)))) 0 (range_with_len 0 n) ≡ checksum c key n
unfolding checksum
checksum_fold c key zero = refl
checksum_fold c key (suc n) =
    let h : ℕ → ℕ → ℕ = λ sum i. bit_xor sum (folded (enciphered c key (counter i))) in
    ap (fold h 0) (ap (range_with_len 0) (sym (add-one n)) ∙ counting_more n) ∙ fold-append h 0 (range_with_len 0 n) (n ∷ []) ∙ ap (λ sum. h sum n) (checksum_fold c key n)

-- a sum of four, from the first on
pub regrouped : (a b c d : ℕ) → bit_xor (bit_xor (bit_xor (bit_xor 0 a) b) c) d ≡ bit_xor (bit_xor a b) (bit_xor c d)
regrouped a b c d = ap (λ x. bit_xor (bit_xor (bit_xor x b) c) d) (xor_zero_l a) ∙ xor_assoc (bit_xor a b) c d

-- a word in 16 bytes
pub wide : (i : ℕ) → i < 2 ^ 32 → bytes_high_first 16 i ≡ counter i
wide i h =
    let past : (k : ℕ) → 2 ^ 32 ≤ k → i / k % 256 ≡ 0 = λ k l. ap (λ x. x % 256) (div-eq_of_lt {n = i} {m = k} (omega arith)) in
    λ j.
    past (2 ^ 120) (lit≤ tt) j ∷ past (2 ^ 112) (lit≤ tt) j ∷ past (2 ^ 104) (lit≤ tt) j ∷ past (2 ^ 96) (lit≤ tt) j ∷ past (2 ^ 88) (lit≤ tt) j ∷ past (2 ^ 80) (lit≤ tt) j ∷ past (2 ^ 72) (lit≤ tt) j ∷ past (2 ^ 64) (lit≤ tt) j ∷ past (2 ^ 56) (lit≤ tt) j ∷ past (2 ^ 48) (lit≤ tt) j ∷ past (2 ^ 40) (lit≤ tt) j ∷ past (2 ^ 32) (lit≤ tt) j ∷ word_bytes i
