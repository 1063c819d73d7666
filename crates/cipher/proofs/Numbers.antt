-- Numbers written in bytes. Assumes nothing.
use Rattle.std.proofs.Common.{◌≡◌, ℕ, zero, suc, ◌-◌, ◌/◌, ◌%◌, ◌^◌, ◌<◌, List, [], ◌∷◌, ◌++◌, sym, ap, ◌∙◌, append_assoc, div-one, arith}
use native.Mathlib.Nat.{div-div-eq-div-mul, pow-succ'}
use Rattle.cipher.specs.Bytes.{number}

-- the lowest byte stands last
number_last : (n t : ℕ) → number (suc n) t ≡ number n (t / 256) ++ t % 256 ∷ []
number_last zero t = ap (λ x. x % 256 ∷ []) (div-one t)
number_last (suc n) t =
    let e : t / 256 ^ suc n ≡ t / 256 / 256 ^ n = ap (λ x. t / x) (pow-succ' 256 n) ∙ sym (div-div-eq-div-mul t 256 (256 ^ n)) in
    λ j. e j % 256 ∷ number_last n t j

-- the lowest byte of the number goes over to the bytes that are written
pub number_less : (k r : ℕ) (written : List ℕ) → 0 < k → number k r ++ written ≡ number (k - 1) (r / 256) ++ r % 256 ∷ written
number_less k r written h =
    let n : k ≡ suc (k - 1) = omega arith in
    ap (λ x. number x r ++ written) n ∙ ap (λ x. x ++ written) (number_last (k - 1) r) ∙ append_assoc (number (k - 1) (r / 256)) (r % 256 ∷ []) written
