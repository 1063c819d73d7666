-- InvMixColumns undoes MixColumns on a column. Assumes nothing.
use Rattle.std.specs.Prelude.{◌≡◌, ℕ, ◌<◌, [], ◌∷◌}
use Rattle.std.proofs.Common.{◌∙◌}
use Rattle.aes.specs.Field.{◌⊕◌, ◌•◌, x_times}
use Rattle.aes.specs.Aes.{product, circulant}
use Rattle.aes.specs.Checked.{same_bytes}
use Rattle.aes.specs.Fields.{product_xor4}
use Rattle.aes.specs.Xors.{turn4, transposed, first_of}

-- the part of byte a in the first row of the unmixed column, where the rows of the mixed one hold it p, q, r and s times
abbrev back : (p q r s a : ℕ) → ℕ
back p q r s a = 0x0e • (p • a) ⊕ 0x0b • (q • a) ⊕ 0x0d • (r • a) ⊕ 0x09 • (s • a)

back_a : (a : ℕ) → a < 256 → back 2 1 1 3 a ≡ a
unfolding ◌•◌ x_times
back_a = same_bytes (back 2 1 1 3) (λ a. a) tt

back_b : (a : ℕ) → a < 256 → back 3 2 1 1 a ≡ 0
unfolding ◌•◌ x_times
back_b = same_bytes (back 3 2 1 1) (λ a. 0) tt

back_c : (a : ℕ) → a < 256 → back 1 3 2 1 a ≡ 0
unfolding ◌•◌ x_times
back_c = same_bytes (back 1 3 2 1) (λ a. 0) tt

back_d : (a : ℕ) → a < 256 → back 1 1 3 2 a ≡ 0
unfolding ◌•◌ x_times
back_d = same_bytes (back 1 1 3 2) (λ a. 0) tt

-- a row times a mixed column
abbrev on_mixed : (p q r s : ℕ) → (a b c d : ℕ) → ℕ
on_mixed p q r s a b c d = product p q r s (circulant 2 3 1 1 (a ∷ b ∷ c ∷ d ∷ []))

on_first : (a b c d : ℕ) → a < 256 → b < 256 → c < 256 → d < 256 → on_mixed 0x0e 0x0b 0x0d 0x09 a b c d ≡ a
on_first a b c d p q r s =
    (λ j. product_xor4 0x0e (2 • a) (3 • b) (1 • c) (1 • d) j
    ⊕ product_xor4 0x0b (1 • a) (2 • b) (3 • c) (1 • d) j
    ⊕ product_xor4 0x0d (1 • a) (1 • b) (2 • c) (3 • d) j
    ⊕ product_xor4 0x09 (3 • a) (1 • b) (1 • c) (2 • d) j)
    ∙ transposed
    (0x0e • (2 • a)) (0x0e • (3 • b)) (0x0e • (1 • c)) (0x0e • (1 • d))
    (0x0b • (1 • a)) (0x0b • (2 • b)) (0x0b • (3 • c)) (0x0b • (1 • d))
    (0x0d • (1 • a)) (0x0d • (1 • b)) (0x0d • (2 • c)) (0x0d • (3 • d))
    (0x09 • (3 • a)) (0x09 • (1 • b)) (0x09 • (1 • c)) (0x09 • (2 • d))
    ∙ (λ j. back_a a p j ⊕ back_b b q j ⊕ back_c c r j ⊕ back_d d s j)
    ∙ first_of a

-- each further row is the first, on the column turned
turned : (p q r s a b c d : ℕ) → product s p q r (a ∷ b ∷ c ∷ d ∷ []) ≡ product p q r s (b ∷ c ∷ d ∷ a ∷ [])
turned p q r s a b c d = turn4 (s • a) (p • b) (q • c) (r • d)

on_turned : (p q r s a b c d : ℕ) → on_mixed s p q r a b c d ≡ on_mixed p q r s b c d a
on_turned p q r s a b c d =
    turned p q r s _ _ _ _
    ∙ (λ j. product p q r s (turned 2 3 1 1 a b c d j ∷ turned 1 2 3 1 a b c d j ∷ turned 1 1 2 3 a b c d j ∷ turned 3 1 1 2 a b c d j ∷ []))

pub unmixed : (a b c d : ℕ) → a < 256 → b < 256 → c < 256 → d < 256
    → circulant 0x0e 0x0b 0x0d 0x09 (circulant 0x02 0x03 0x01 0x01 (a ∷ b ∷ c ∷ d ∷ [])) ≡ a ∷ b ∷ c ∷ d ∷ []
unmixed a b c d p q r s =
    let e0 = on_first a b c d p q r s in
    let e1 = on_turned 0x0e 0x0b 0x0d 0x09 a b c d ∙ on_first b c d a q r s p in
    let e2 = on_turned 0x09 0x0e 0x0b 0x0d a b c d ∙ on_turned 0x0e 0x0b 0x0d 0x09 b c d a ∙ on_first c d a b r s p q in
    let e3 =
    on_turned 0x0d 0x09 0x0e 0x0b a b c d ∙ on_turned 0x09 0x0e 0x0b 0x0d b c d a
    ∙ on_turned 0x0e 0x0b 0x0d 0x09 c d a b ∙ on_first d a b c s p q r in
    λ j. e0 j ∷ e1 j ∷ e2 j ∷ e3 j ∷ []
