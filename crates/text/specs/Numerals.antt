-- Numbers in decimal digits. Assumes nothing.
use Rattle.std.specs.Prelude.{◌≡◌, ℕ, ◌+◌, ◌-◌, ◌*◌, ◌^◌, ◌<◌, ◌≤◌, List, [], ◌∷◌, length, Some, None, Option}
use Rattle.std.specs.List.{AllByRecursion}

-- the number that has the digits of a before those of the text
abbrev pub spelled : ℕ → List ℕ → ℕ
spelled a [] = a
spelled a (c ∷ cs) = spelled (a * 10 + (c - 48)) cs

-- a text of digits 0 to 9 is a number of at most 32 bits
pub record Numeral (text : List ℕ) (t : ℕ) : Type 0 where
  pub some : 0 < length text
  pub digits : AllByRecursion (λ c. (48 ≤ c) × (c < 58)) text
  pub value : spelled 0 text ≡ t
  pub fits : t < 2 ^ 32

abbrev pub IsNumeral : List ℕ → Option ℕ → Type 0
IsNumeral text (Some t) = Numeral text t
IsNumeral text None = (t : ℕ) → Numeral text t → ⊥
