-- A column that is the sum of four look-ups, each rotated into its row. Assumes nothing.
use Rattle.std.proofs.Common.{◌≡◌, ℕ, ◌-◌, ◌*◌, ◌/◌, ◌%◌, ◌^◌, ◌<◌, [], ◌∷◌, ap, ◌∙◌}
use Rattle.std.specs.Prelude.{bit_or}
use Rattle.cipher.specs.Bytes.{word_bytes}
use Rattle.cipher.proofs.Words.{bytes_word4}
use Rattle.aes.specs.Field.{◌⊕◌, ◌•◌}
use Rattle.aes.specs.Aes.{circulant}
use Rattle.aes.specs.Words.{entry}
use Rattle.aes.specs.Fields.{product_below}
use Rattle.aes.proofs.Turns.{bytes_xor4, right1, right2, right3}

-- a word rotated right by k bits
abbrev pub right : ℕ → ℕ → ℕ
right k w = bit_or (w / 2 ^ k) (w * 2 ^ (32 - k) % 2 ^ 32)

module _ (p q r s : ℕ) where
  row0 : (a : ℕ) → a < 256 → word_bytes (entry p q r s a) ≡ p • a ∷ q • a ∷ r • a ∷ s • a ∷ []
  row0 a h = bytes_word4 (p • a) (q • a) (r • a) (s • a) (product_below p a h) (product_below q a h) (product_below r a h) (product_below s a h)

  row1 : (a : ℕ) → a < 256 → word_bytes (right 8 (entry p q r s a)) ≡ s • a ∷ p • a ∷ q • a ∷ r • a ∷ []
  row1 a h =
      ap word_bytes (right1 (p • a) (q • a) (r • a) (s • a) (product_below p a h) (product_below q a h) (product_below r a h) (product_below s a h))
      ∙ bytes_word4 (s • a) (p • a) (q • a) (r • a) (product_below s a h) (product_below p a h) (product_below q a h) (product_below r a h)

  row2 : (a : ℕ) → a < 256 → word_bytes (right 16 (entry p q r s a)) ≡ r • a ∷ s • a ∷ p • a ∷ q • a ∷ []
  row2 a h =
      ap word_bytes (right2 (p • a) (q • a) (r • a) (s • a) (product_below p a h) (product_below q a h) (product_below r a h) (product_below s a h))
      ∙ bytes_word4 (r • a) (s • a) (p • a) (q • a) (product_below r a h) (product_below s a h) (product_below p a h) (product_below q a h)

  row3 : (a : ℕ) → a < 256 → word_bytes (right 24 (entry p q r s a)) ≡ q • a ∷ r • a ∷ s • a ∷ p • a ∷ []
  row3 a h =
      ap word_bytes (right3 (p • a) (q • a) (r • a) (s • a) (product_below p a h) (product_below q a h) (product_below r a h) (product_below s a h))
      ∙ bytes_word4 (q • a) (r • a) (s • a) (p • a) (product_below q a h) (product_below r a h) (product_below s a h) (product_below p a h)

  pub looked_up : (a b c d : ℕ) → a < 256 → b < 256 → c < 256 → d < 256 → {v w x y w' x' y' : ℕ}
      → v ≡ entry p q r s a → w ≡ entry p q r s b → x ≡ entry p q r s c → y ≡ entry p q r s d → w' ≡ right 8 w → x' ≡ right 16 x → y' ≡ right 24 y
      → word_bytes (v ⊕ w' ⊕ x' ⊕ y') ≡ circulant p s r q (a ∷ b ∷ c ∷ d ∷ [])
  looked_up a b c d ha hb hc hd ev ew ex ey tw tx ty =
      bytes_xor4 _ _ _ _
      (ap word_bytes ev ∙ row0 a ha)
      (ap word_bytes (tw ∙ ap (right 8) ew) ∙ row1 b hb)
      (ap word_bytes (tx ∙ ap (right 16) ex) ∙ row2 c hc)
      (ap word_bytes (ty ∙ ap (right 24) ey) ∙ row3 d hd)
