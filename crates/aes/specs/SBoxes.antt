-- The inverse of the field, SBox and InvSBox. Assumes nothing.
use Rattle.std.specs.Prelude.{◌≡◌, ℕ, zero, suc, ◌/◌, ◌%◌, ◌^◌, ◌<◌, cond, ◌==◌}
use Rattle.std.proofs.Common.{sym, ap, ◌∙◌, arith, ne_eqb}
use Rattle.std.proofs.lemmas.Nat.{xor_lt}
use Rattle.aes.specs.Field.{◌⊕◌, ◌•◌, x_times, power, inverse}
use Rattle.aes.specs.Aes.{rotated, s_box, inv_s_box}
use Rattle.aes.specs.Checked.{same_bytes, at_once, at_once_is}
use Rattle.aes.specs.Fields.{product_below}

power_below : (n e a : ℕ) → power n e a < 256
power_below zero e a = omega arith
power_below (suc n) e a = product_below (a ^ (e % 2)) (power n (e / 2) (a • a)) (power_below n (e / 2) (a • a))

inverse_below : (a : ℕ) → inverse a < 256
unfolding inverse
inverse_below a = power_below 8 254 a

pub s_box_below : (a : ℕ) → s_box a < 256
unfolding s_box
s_box_below a =
    let b = inverse a in
    let h = inverse_below a in
    let one = xor_lt 8 b (rotated 1 b) h (omega arith) in
    let two = xor_lt 8 (b ⊕ rotated 1 b) (rotated 2 b) one (omega arith) in
    let three = xor_lt 8 (b ⊕ rotated 1 b ⊕ rotated 2 b) (rotated 3 b) two (omega arith) in
    let four = xor_lt 8 (b ⊕ rotated 1 b ⊕ rotated 2 b ⊕ rotated 3 b) (rotated 4 b) three (omega arith) in
    xor_lt 8 (b ⊕ rotated 1 b ⊕ rotated 2 b ⊕ rotated 3 b ⊕ rotated 4 b) 0x63 four (omega arith)

back_at_once : (a : ℕ) → a < 256 → at_once inv_s_box (s_box a) ≡ a
unfolding s_box inv_s_box inverse ◌•◌ x_times
back_at_once = same_bytes (λ a. at_once inv_s_box (s_box a)) (λ a. a) tt

pub inv_s_box_s_box : (a : ℕ) → a < 256 → inv_s_box (s_box a) ≡ a
inv_s_box_s_box a h = sym (at_once_is inv_s_box (s_box a)) ∙ back_at_once a h

-- 1, and 0 for 0
times_inverse : (a : ℕ) → a < 256 → a • inverse a ≡ cond (a == 0) 0 1
unfolding inverse ◌•◌ x_times
times_inverse = same_bytes (λ a. a • inverse a) (λ a. cond (a == 0) 0 1) tt

pub inverts : (a : ℕ) → a < 256 → 0 < a → a • inverse a ≡ 1
inverts a h p = times_inverse a h ∙ ap (λ b. cond b 0 1) (ne_eqb a 0 (λ e. omega arith))
