-- The field of bytes modulo 11B (FIPS 197 of 2023, section 4). Assumes nothing.
use Rattle.std.specs.Prelude.{ℕ, zero, suc, ◌*◌, ◌/◌, ◌%◌, ◌^◌, bit_xor}

-- addition (4.1)
infixl 68 ◌⊕◌
abbrev pub ◌⊕◌ : ℕ → ℕ → ℕ
◌⊕◌ a b = bit_xor a b

-- xTimes (4.2): where the highest bit is 1, 1B makes up for it
unfoldable pub x_times : ℕ → ℕ
x_times b = b * 2 % 256 ⊕ b / 128 % 2 * 0x1B

-- a times the lowest n bits of c
abbrev pub times : ℕ → ℕ → ℕ → ℕ
times zero c a = 0
times (suc n) c a = c % 2 * a ⊕ times n (c / 2) (x_times a)

-- multiplication (4.2)
infixl 70 ◌•◌
unfoldable pub ◌•◌ : ℕ → ℕ → ℕ
◌•◌ c a = times 8 c a

-- a to the power of the lowest n bits of e
abbrev pub power : ℕ → ℕ → ℕ → ℕ
power zero e a = 1
power (suc n) e a = a ^ (e % 2) • power n (e / 2) (a • a)

-- the inverse (4.4); that of 0 is 0
unfoldable pub inverse : ℕ → ℕ
inverse a = power 8 254 a
