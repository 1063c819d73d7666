-- Decimal digits, one after the other. Assumes nothing.
use Rattle.std.proofs.Common.{◌≡◌, ℕ, ◌+◌, ◌-◌, ◌*◌, ◌^◌, ◌<◌, ◌≤◌, List, [], ◌∷◌, length, get_or, drop, arith}
use Rattle.std.proofs.lemmas.List.{at_drop_more}
use Rattle.text.specs.Numerals.{spelled, Numeral}

-- more digits never make a smaller number
spelled_least : (a : ℕ) (text : List ℕ) → a ≤ spelled a text
spelled_least a [] = omega arith
spelled_least a (c ∷ cs) = omega (arith, spelled_least (a * 10 + (c - 48)) cs)

-- one digit more
pub spelled_more : (a i : ℕ) (text : List ℕ) → i < length text
    → spelled a (drop i text) ≡ spelled (a * 10 + (get_or text i 0 - 48)) (drop (i + 1) text)
spelled_more a i text h = at_drop_more (spelled a) text i 0 h

-- digits that come past 32 bits with the next one
pub too_large : (text : List ℕ) (a i : ℕ) → i < length text → 2 ^ 32 ≤ a * 10 + (get_or text i 0 - 48)
    → spelled a (drop i text) ≡ spelled 0 text → (t : ℕ) → Numeral text t → ⊥
too_large text a i h large e t n =
    omega (arith, spelled_more a i text h, spelled_least (a * 10 + (get_or text i 0 - 48)) (drop (i + 1) text), n.value, n.fits)
