-- Bytes in hexadecimal. Assumes nothing.
use Rattle.std.specs.Prelude.{◌≡◌, ℕ, ◌+◌, ◌*◌, ◌/◌, ◌%◌, ◌<◌, ◌≤◌, cond, ◌⊎◌, List, [], ◌∷◌, length, Ok, Err, vec_items, Result, Vec, nat_lt, slice_index}
use Rattle.std.specs.declared.alloc.Global.{Global}
use Rattle.std.specs.List.{flat_map}
use Rattle.text.specs.declared.fault.HexFault.{HexFault}
use Rattle.text.specs.declared.fault.HexFault.TheVariants.{Digits, Memory}

-- the character c is a digit of value v: 0 to 9, A to F or a to f
abbrev pub Digit : ℕ → ℕ → Type 0
Digit c v = ((v < 10) × (c ≡ 48 + v)) ⊎ ((10 ≤ v) × (v < 16) × ((c ≡ 55 + v) ⊎ (c ≡ 87 + v)))

-- two digits spell each byte, the high half first
pub record Spells (text bytes : List ℕ) : Type 0 where
  pub pairs : length text ≡ 2 * length bytes
  pub high : (k : ℕ) → k < length bytes → Digit (slice_index text (2 * k)) (slice_index bytes k / 16)
  pub low : (k : ℕ) → k < length bytes → Digit (slice_index text (2 * k + 1)) (slice_index bytes k % 16)

-- what the reading of a text answers
abbrev pub Decoded : List ℕ → Result (Vec ℕ Global) HexFault → Type 0
Decoded text (Ok v) = Spells text (vec_items v)
Decoded text (Err Digits) = (bytes : List ℕ) → Spells text bytes → ⊥
Decoded text (Err Memory) = Unit {0}

-- the digit that is written for a value
abbrev pub capital : ℕ → ℕ
capital v = cond (nat_lt v 10) (48 + v) (55 + v)

abbrev pub encoded : List ℕ → List ℕ
encoded = flat_map (λ b. capital (b / 16) ∷ capital (b % 16) ∷ [])
