-- A word of 32 bits and its four bytes. Assumes nothing.
use Rattle.std.proofs.Common.{◌≡◌, ℕ, zero, suc, ◌+◌, ◌*◌, ◌/◌, ◌%◌, ◌^◌, ◌<◌, List, [], ◌∷◌, get_or, mod-eq_of_lt, arith}
use Rattle.std.specs.List.{AllByRecursion}
use Rattle.std.proofs.lemmas.Nat.{shr-shr, div-add-mod'}
use Rattle.cipher.specs.Bytes.{word_bytes, word}

abbrev pub word4 : ℕ → ℕ → ℕ → ℕ → ℕ
word4 a b c d = a * 16777216 + b * 65536 + c * 256 + d

pub bytes_word4 : (a b c d : ℕ) → a < 256 → b < 256 → c < 256 → d < 256 → word_bytes (word4 a b c d) ≡ a ∷ b ∷ c ∷ d ∷ []
bytes_word4 a b c d p q r s =
    let e0 : word4 a b c d / 16777216 % 256 ≡ a = omega arith in
    let e1 : word4 a b c d / 65536 % 256 ≡ b = omega arith in
    let e2 : word4 a b c d / 256 % 256 ≡ c = omega arith in
    let e3 : word4 a b c d % 256 ≡ d = omega arith in
    λ j. e0 j ∷ e1 j ∷ e2 j ∷ e3 j ∷ []

digits : (w : ℕ) → w < 2 ^ 32 → word4 (w / 256 / 256 / 256 % 256) (w / 256 / 256 % 256) (w / 256 % 256) (w % 256) ≡ w
digits w h =
    let top : w / 256 / 256 / 256 % 256 ≡ w / 256 / 256 / 256 = mod-eq_of_lt (omega arith) in
    omega (arith, top, div-add-mod' w 256, div-add-mod' (w / 256) 256, div-add-mod' (w / 256 / 256) 256)

-- a word is that of its bytes
pub word_of_bytes : (w : ℕ) → w < 2 ^ 32 → word (word_bytes w) 0 ≡ w
word_of_bytes w h = rw (← shr-shr w 16 8, ← shr-shr w 8 8) (digits w h)

pub small_bytes : (w : ℕ) → AllByRecursion (λ x. x < 256) (word_bytes w)
small_bytes w = (omega arith, (omega arith, (omega arith, (omega arith, tt))))

pub small_at : (b : List ℕ) → AllByRecursion (λ x. x < 256) b → (k : ℕ) → get_or b k 0 < 256
small_at [] h k = omega arith
small_at (x ∷ b) h zero = h.0
small_at (x ∷ b) h (suc k) = small_at b h.1 k

-- the bytes of a word that stands in b
pub bytes_word : (b : List ℕ) → ((k : ℕ) → get_or b k 0 < 256)
    → (i : ℕ) → word_bytes (word b i) ≡ get_or b i 0 ∷ get_or b (i + 1) 0 ∷ get_or b (i + 2) 0 ∷ get_or b (i + 3) 0 ∷ []
bytes_word b small i =
    bytes_word4 (get_or b i 0) (get_or b (i + 1) 0) (get_or b (i + 2) 0) (get_or b (i + 3) 0) (small i) (small (i + 1)) (small (i + 2)) (small (i + 3))
