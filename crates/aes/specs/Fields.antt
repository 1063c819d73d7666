-- A product of bytes is a byte, and linear. Assumes nothing.
use Rattle.std.specs.Prelude.{◌≡◌, ℕ, zero, suc, ◌*◌, ◌/◌, ◌%◌, ◌<◌, refl}
use Rattle.std.proofs.Common.{sym, ap, ◌∙◌, add-zero, zero-mul, one-mul, not-suc-le-zero, le_of_suc-le-suc, arith}
use Rattle.std.proofs.lemmas.Nat.{xor_lt, xor_block, xor_mod, xor_shr}
use Rattle.std.specs.Int.Bits.{xor_self, xor_zero_r}
use Rattle.aes.specs.Field.{◌⊕◌, x_times, times, ◌•◌}
use Rattle.aes.specs.Xors.{swap}

-- a bit times a number
bit_below : (m a : ℕ) → m < 2 → a < 256 → m * a < 256
bit_below zero a p h = rw zero-mul (omega arith)
bit_below (suc zero) a p h = rw one-mul h
bit_below (suc (suc m)) a p h = absurd (not-suc-le-zero (le_of_suc-le-suc (le_of_suc-le-suc p)))

bit_xor : (m n a : ℕ) → m < 2 → n < 2 → (m ⊕ n) * a ≡ m * a ⊕ n * a
bit_xor zero n a p q = rw (zero-mul a)
bit_xor (suc zero) zero a p q = rw (zero-mul a, one-mul a) (sym (xor_zero_r a))
bit_xor (suc zero) (suc zero) a p q = rw (one-mul a) (zero-mul a ∙ sym (xor_self a))
bit_xor (suc zero) (suc (suc n)) a p q = absurd (not-suc-le-zero (le_of_suc-le-suc (le_of_suc-le-suc q)))
bit_xor (suc (suc m)) n a p q = absurd (not-suc-le-zero (le_of_suc-le-suc (le_of_suc-le-suc p)))

bit_add : (m a b : ℕ) → m < 2 → m * (a ⊕ b) ≡ m * a ⊕ m * b
bit_add zero a b p = simp zero-mul
bit_add (suc zero) a b p = simp one-mul
bit_add (suc (suc m)) a b p = absurd (not-suc-le-zero (le_of_suc-le-suc (le_of_suc-le-suc p)))

x_times_below : (a : ℕ) → x_times a < 256
unfolding x_times
x_times_below a = xor_lt 8 (a * 2 % 256) (a / 128 % 2 * 0x1B) (omega arith) (omega arith)

times_below : (n c a : ℕ) → a < 256 → times n c a < 256
times_below zero c a h = omega arith
times_below (suc n) c a h =
    xor_lt 8 (c % 2 * a) (times n (c / 2) (x_times a)) (bit_below (c % 2) a (omega arith) h)
    (times_below n (c / 2) (x_times a) (x_times_below a))

pub product_below : (c a : ℕ) → a < 256 → c • a < 256
unfolding ◌•◌
product_below c a h = times_below 8 c a h

twice_xor : (a b : ℕ) → (a ⊕ b) * 2 ≡ a * 2 ⊕ b * 2
twice_xor a b = sym (simp add-zero at (xor_block 1 a b 0 0 (omega arith) (omega arith)))

x_times_xor : (a b : ℕ) → x_times (a ⊕ b) ≡ x_times a ⊕ x_times b
unfolding x_times
x_times_xor a b =
    let low : (a ⊕ b) * 2 % 256 ≡ a * 2 % 256 ⊕ b * 2 % 256 = ap (λ n. n % 256) (twice_xor a b) ∙ xor_mod (a * 2) (b * 2) 8 in
    let top : (a ⊕ b) / 128 % 2 ≡ a / 128 % 2 ⊕ b / 128 % 2 = ap (λ n. n % 2) (xor_shr a b 7) ∙ xor_mod (a / 128) (b / 128) 1 in
    let high = ap (λ n. n * 0x1B) top ∙ bit_xor (a / 128 % 2) (b / 128 % 2) 0x1B (omega arith) (omega arith) in
    (λ j. low j ⊕ high j) ∙ swap (a * 2 % 256) (b * 2 % 256) (a / 128 % 2 * 0x1B) (b / 128 % 2 * 0x1B)

times_xor : (n c a b : ℕ) → times n c (a ⊕ b) ≡ times n c a ⊕ times n c b
times_xor zero c a b = refl
times_xor (suc n) c a b =
    let more = ap (times n (c / 2)) (x_times_xor a b) ∙ times_xor n (c / 2) (x_times a) (x_times b) in
    (λ j. bit_add (c % 2) a b (omega arith) j ⊕ more j)
    ∙ swap (c % 2 * a) (c % 2 * b) (times n (c / 2) (x_times a)) (times n (c / 2) (x_times b))

product_xor : (c a b : ℕ) → c • (a ⊕ b) ≡ c • a ⊕ c • b
unfolding ◌•◌
product_xor c a b = times_xor 8 c a b

pub product_xor4 : (k a b c d : ℕ) → k • (a ⊕ b ⊕ c ⊕ d) ≡ k • a ⊕ k • b ⊕ k • c ⊕ k • d
product_xor4 k a b c d =
    product_xor k (a ⊕ b ⊕ c) d ∙ ap (λ n. n ⊕ k • d) (product_xor k (a ⊕ b) c ∙ ap (λ n. n ⊕ k • c) (product_xor k a b))
