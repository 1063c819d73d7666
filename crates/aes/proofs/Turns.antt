-- The bytes of a sum of words, and of a word rotated. Assumes nothing.
use Rattle.std.specs.Prelude.{◌≡◌, ℕ, ◌+◌, ◌*◌, ◌/◌, ◌%◌, ◌^◌, ◌<◌, List, [], ◌∷◌, bit_or, slice_index}
use Rattle.std.proofs.Common.{sym, ap, ◌∙◌, arith}
use Rattle.std.proofs.lemmas.Nat.{or_comm, xor_shr, xor_mod}
use Rattle.std.specs.Int.Bits.{or_shifted_r}
use Rattle.cipher.specs.Bytes.{word_bytes}
use Rattle.cipher.proofs.Words.{word4, word_of_bytes}
use Rattle.aes.specs.Field.{◌⊕◌}
use Rattle.aes.specs.Aes.{rot_word}

-- the sum of two columns
abbrev pub sum4 : List ℕ → List ℕ → List ℕ
sum4 a b = slice_index a 0 ⊕ slice_index b 0 ∷ slice_index a 1 ⊕ slice_index b 1 ∷ slice_index a 2 ⊕ slice_index b 2 ∷ slice_index a 3 ⊕ slice_index b 3 ∷ []

byte_xor : (x y k : ℕ) → (x ⊕ y) / 2 ^ k % 2 ^ 8 ≡ x / 2 ^ k % 2 ^ 8 ⊕ y / 2 ^ k % 2 ^ 8
byte_xor x y k = ap (λ n. n % 2 ^ 8) (xor_shr x y k) ∙ xor_mod (x / 2 ^ k) (y / 2 ^ k) 8

pub bytes_xor : (x y : ℕ) → word_bytes (x ⊕ y) ≡ sum4 (word_bytes x) (word_bytes y)
bytes_xor x y = λ j. byte_xor x y 24 j ∷ byte_xor x y 16 j ∷ byte_xor x y 8 j ∷ xor_mod x y 8 j ∷ []

-- a sum of four words, of known bytes
pub bytes_xor4 : (v w x y : ℕ) {a b c d : List ℕ} → word_bytes v ≡ a → word_bytes w ≡ b → word_bytes x ≡ c → word_bytes y ≡ d
    → word_bytes (v ⊕ w ⊕ x ⊕ y) ≡ sum4 (sum4 (sum4 a b) c) d
bytes_xor4 v w x y p q r s =
    let two = bytes_xor v w ∙ (λ j. sum4 (p j) (q j)) in
    let three = bytes_xor (v ⊕ w) x ∙ (λ j. sum4 (two j) (r j)) in
    bytes_xor (v ⊕ w ⊕ x) y ∙ (λ j. sum4 (three j) (s j))

-- the word of four bytes, rotated right by one, two and three bytes
module _ (a b c d : ℕ) (p : a < 256) (q : b < 256) (r : c < 256) (s : d < 256) where
  pub right1 : bit_or (word4 a b c d / 2 ^ 8) (word4 a b c d * 2 ^ 24 % 2 ^ 32) ≡ word4 d a b c
  right1 =
      let e : word4 a b c d * 2 ^ 24 % 2 ^ 32 ≡ d * 2 ^ 24 = omega arith in
      let f : word4 a b c d / 2 ^ 8 ≡ a * 65536 + b * 256 + c = omega arith in
      rw (e, f) (or_shifted_r d 24 (a * 65536 + b * 256 + c) (omega arith) ∙ omega arith)

  pub right2 : bit_or (word4 a b c d / 2 ^ 16) (word4 a b c d * 2 ^ 16 % 2 ^ 32) ≡ word4 c d a b
  right2 =
      let e : word4 a b c d * 2 ^ 16 % 2 ^ 32 ≡ (c * 256 + d) * 2 ^ 16 = omega arith in
      let f : word4 a b c d / 2 ^ 16 ≡ a * 256 + b = omega arith in
      rw (e, f) (or_shifted_r (c * 256 + d) 16 (a * 256 + b) (omega arith) ∙ omega arith)

  pub right3 : bit_or (word4 a b c d / 2 ^ 24) (word4 a b c d * 2 ^ 8 % 2 ^ 32) ≡ word4 b c d a
  right3 =
      let e : word4 a b c d * 2 ^ 8 % 2 ^ 32 ≡ (b * 65536 + c * 256 + d) * 2 ^ 8 = omega arith in
      let f : word4 a b c d / 2 ^ 24 ≡ a = omega arith in
      rw (e, f) (or_shifted_r (b * 65536 + c * 256 + d) 8 a p ∙ omega arith)

-- RotWord
pub left1 : (w : ℕ) → w < 2 ^ 32 → bit_or (w * 2 ^ 8 % 2 ^ 32) (w / 2 ^ 24) ≡ rot_word w
left1 w h =
    let e = sym (word_of_bytes w h) in
    or_comm (w * 2 ^ 8 % 2 ^ 32) (w / 2 ^ 24)
    ∙ (λ j. bit_or (e j / 2 ^ 24) (e j * 2 ^ 8 % 2 ^ 32))
    ∙ right3 (w / 16777216 % 256) (w / 65536 % 256) (w / 256 % 256) (w % 256) (omega arith) (omega arith) (omega arith) (omega arith)
