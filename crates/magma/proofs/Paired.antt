-- Two rows at a time. Assumes nothing.
use Rattle.std.proofs.Common.{◌≡◌, ℕ, ◌+◌, ◌*◌, ◌/◌, ◌%◌, List, [], ◌∷◌, get_or, sym, ap, ◌∙◌, arith}
use Rattle.std.proofs.lemmas.Nat.{shr-shr, field_of}
use Rattle.cipher.proofs.Words.{word4}
use Rattle.magma.specs.Magma.{Pi', substituted, t}
use Rattle.magma.specs.Pairs.{pair}

-- a byte by two rows, the rest by the others
two : (r s : List ℕ) (more : List (List ℕ)) (a : ℕ)
    → substituted (r ∷ s ∷ more) a ≡ substituted (r ∷ s ∷ []) (a % 256) + 256 * substituted more (a / 256)
two r s more a =
    let low : a % 16 ≡ a % 256 % 16 = omega arith in
    let same : a / 16 % 16 ≡ a / 16 % 16 % 16 = omega arith in
    let high : a / 16 % 16 ≡ a % 256 / 16 % 16 = same ∙ sym (ap (λ n. n % 16) (field_of a 4 4)) in
    let e : substituted (r ∷ s ∷ more) a ≡ get_or r (a % 256 % 16) 0 + 16 * (get_or s (a % 256 / 16 % 16) 0 + 16 * substituted more (a / 256)) =
    λ j. get_or r (low j) 0 + 16 * (get_or s (high j) 0 + 16 * substituted more (shr-shr a 4 4 j)) in
    e ∙ omega arith

arranged : (p q r s : ℕ) → p + 256 * (q + 256 * (r + 256 * (s + 0))) ≡ word4 s r q p
arranged p q r s = omega arith

-- four bytes, each by its two rows
four : (r0 r1 r2 r3 r4 r5 r6 r7 : List ℕ) (a : ℕ) → substituted (r0 ∷ r1 ∷ r2 ∷ r3 ∷ r4 ∷ r5 ∷ r6 ∷ r7 ∷ []) a
    ≡ word4 (substituted (r6 ∷ r7 ∷ []) (a / 16777216 % 256)) (substituted (r4 ∷ r5 ∷ []) (a / 65536 % 256))
    (substituted (r2 ∷ r3 ∷ []) (a / 256 % 256)) (substituted (r0 ∷ r1 ∷ []) (a % 256))
four r0 r1 r2 r3 r4 r5 r6 r7 a =
    let p : ℕ → ℕ = substituted (r0 ∷ r1 ∷ []) in
    let q : ℕ → ℕ = substituted (r2 ∷ r3 ∷ []) in
    let r : ℕ → ℕ = substituted (r4 ∷ r5 ∷ []) in
    let s : ℕ → ℕ = substituted (r6 ∷ r7 ∷ []) in
    let y = shr-shr a 8 8 in
    let z = ap (λ n. n / 256) y ∙ shr-shr a 16 8 in
    two r0 r1 (r2 ∷ r3 ∷ r4 ∷ r5 ∷ r6 ∷ r7 ∷ []) a
    ∙ ap (λ n. p (a % 256) + 256 * n) (two r2 r3 (r4 ∷ r5 ∷ r6 ∷ r7 ∷ []) (a / 256)
    ∙ ap (λ n. q (a / 256 % 256) + 256 * n) (two r4 r5 (r6 ∷ r7 ∷ []) (a / 256 / 256)
    ∙ ap (λ n. r (a / 256 / 256 % 256) + 256 * n) (two r6 r7 [] (a / 256 / 256 / 256))))
    ∙ (λ j. p (a % 256) + 256 * (q (a / 256 % 256) + 256 * (r (y j % 256) + 256 * (s (z j % 256) + 0))))
    ∙ arranged (p (a % 256)) (q (a / 256 % 256)) (r (a / 65536 % 256)) (s (a / 16777216 % 256))

-- four bytes, each made by two rows, are the word that t makes
pub by_pairs : {x3 x2 x1 x0 : ℕ} (a : ℕ) → x0 ≡ pair 0 (a % 256) → x1 ≡ pair 1 (a / 256 % 256)
    → x2 ≡ pair 2 (a / 65536 % 256) → x3 ≡ pair 3 (a / 16777216 % 256) → word4 x3 x2 x1 x0 ≡ t a
unfolding t
by_pairs a e0 e1 e2 e3 =
    (λ j. word4 (e3 j) (e2 j) (e1 j) (e0 j))
    ∙ sym (four (get_or Pi' 0 []) (get_or Pi' 1 []) (get_or Pi' 2 []) (get_or Pi' 3 []) (get_or Pi' 4 []) (get_or Pi' 5 []) (get_or Pi' 6 []) (get_or Pi' 7 []) a)
