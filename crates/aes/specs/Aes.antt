-- AES (FIPS 197 of 2023, section 5). Assumes nothing.
-- A state is a list of 16 bytes: byte i stands in row i mod 4, column i div 4.
use Rattle.std.specs.Prelude.{ℕ, zero, suc, ◌+◌, ◌-◌, ◌*◌, ◌/◌, ◌%◌, ◌^◌, cond, ◌&&◌, List, [], ◌∷◌, ◌++◌, map, ◌==◌, nat_lt, slice_index}
use Rattle.std.specs.List.{range_with_len}
use Rattle.cipher.specs.Bytes.{word, word_bytes}
use Rattle.cipher.specs.Model.{Model}
use Rattle.aes.specs.Field.{◌⊕◌, ◌•◌, power, inverse}

-- the byte of s in row r, column c
abbrev pub at : List ℕ → ℕ → ℕ → ℕ
at s r c = slice_index s (r + 4 * c)

-- the state that has f r c in row r, column c
abbrev pub state : (ℕ → ℕ → ℕ) → List ℕ
state f = map (λ i. f (i % 4) (i / 4)) (range_with_len 0 16)

-- a byte rotated left by n bits
abbrev pub rotated : ℕ → ℕ → ℕ
rotated n b = b * 2 ^ n % 256 + b / 2 ^ (8 - n)

-- SBox (5.1.1)
unfoldable pub s_box : ℕ → ℕ
s_box y = let b : ℕ = inverse y in b ⊕ rotated 1 b ⊕ rotated 2 b ⊕ rotated 3 b ⊕ rotated 4 b ⊕ 0x63

-- SubBytes (5.1.1)
abbrev pub sub_bytes : List ℕ → List ℕ
sub_bytes s = state (λ r c. s_box (at s r c))

-- ShiftRows (5.1.2)
abbrev pub shift_rows : List ℕ → List ℕ
shift_rows s = state (λ r c. at s r ((c + r) % 4))

-- column c of s
abbrev pub column : List ℕ → ℕ → List ℕ
column s c = at s 0 c ∷ at s 1 c ∷ at s 2 c ∷ at s 3 c ∷ []

-- a row of a matrix times a column (4.3)
abbrev pub product : (p q r s : ℕ) → List ℕ → ℕ
product p q r s b = p • slice_index b 0 ⊕ q • slice_index b 1 ⊕ r • slice_index b 2 ⊕ s • slice_index b 3

-- a matrix times a column (4.3): its first row is p q r s, and each further row is the one before it, turned
abbrev pub circulant : (p q r s : ℕ) → List ℕ → List ℕ
circulant p q r s b = product p q r s b ∷ product s p q r b ∷ product r s p q b ∷ product q r s p b ∷ []

-- MixColumns (5.1.3)
abbrev pub mix_columns : List ℕ → List ℕ
mix_columns s = state (λ r c. slice_index (circulant 0x02 0x03 0x01 0x01 (column s c)) r)

-- AddRoundKey (5.1.4): k is four words, a word for each column
unfoldable pub add_round_key : List ℕ → List ℕ → List ℕ
add_round_key s k = state (λ r c. at s r c ⊕ slice_index (word_bytes (slice_index k c)) r)

-- w[4 * n .. 4 * n + 3]
abbrev pub round_key : List ℕ → ℕ → List ℕ
round_key w n = slice_index w (4 * n) ∷ slice_index w (4 * n + 1) ∷ slice_index w (4 * n + 2) ∷ slice_index w (4 * n + 3) ∷ []

-- a round of Cipher
unfoldable pub round : List ℕ → List ℕ → List ℕ
round s k = add_round_key (mix_columns (shift_rows (sub_bytes s))) k

-- the state of Cipher after round n
abbrev pub rounds : ℕ → List ℕ → List ℕ → List ℕ
rounds zero w s = add_round_key s (round_key w 0)
rounds (suc n) w s = round (rounds n w s) (round_key w (suc n))

-- the last round of Cipher
unfoldable pub last_round : List ℕ → List ℕ → List ℕ
last_round s k = add_round_key (shift_rows (sub_bytes s)) k

-- Cipher (5.1), of nr rounds
unfoldable pub cipher : List ℕ → ℕ → List ℕ → List ℕ
cipher s nr w = last_round (rounds (nr - 1) w s) (round_key w nr)

-- RotWord (5.2)
abbrev pub rot_word : ℕ → ℕ
rot_word w = let a : List ℕ = word_bytes w in word (slice_index a 1 ∷ slice_index a 2 ∷ slice_index a 3 ∷ slice_index a 0 ∷ []) 0

-- SubWord (5.2)
abbrev pub sub_word : ℕ → ℕ
sub_word w = word (map s_box (word_bytes w)) 0

-- Rcon (5.2)
unfoldable pub rcon : ℕ → ℕ
rcon j = word (power 8 (j - 1) 0x02 ∷ 0 ∷ 0 ∷ 0 ∷ []) 0

-- what KeyExpansion makes of w[i - 1]
unfoldable pub temp : ℕ → ℕ → ℕ → ℕ
temp nk i t =
    cond (i % nk == 0) (sub_word (rot_word t) ⊕ rcon (i / nk)) (cond (nat_lt 6 nk && i % nk == 4) (sub_word t) t)

-- the first nk + n words of KeyExpansion, from a key of nk words
unfoldable pub expanded : ℕ → ℕ → List ℕ → List ℕ
expanded nk zero key = map (λ i. word key (4 * i)) (range_with_len 0 nk)
expanded nk (suc n) key =
    let w : List ℕ = expanded nk n key in
    let i : ℕ = nk + n in
    w ++ (slice_index w (i - nk) ⊕ temp nk i (slice_index w (i - 1))) ∷ []

-- KeyExpansion (5.2), for nr rounds
abbrev pub key_expansion : ℕ → ℕ → List ℕ → List ℕ
key_expansion nk nr key = expanded nk (4 * (nr + 1) - nk) key

-- InvShiftRows (5.3.1)
abbrev pub inv_shift_rows : List ℕ → List ℕ
inv_shift_rows s = state (λ r c. at s r ((c + 4 - r) % 4))

-- InvSBox (5.3.2): the affine map undone, and then the inverse in the field
unfoldable pub inv_s_box : ℕ → ℕ
inv_s_box y = inverse (rotated 1 y ⊕ rotated 3 y ⊕ rotated 6 y ⊕ 0x05)

-- InvSubBytes (5.3.2)
abbrev pub inv_sub_bytes : List ℕ → List ℕ
inv_sub_bytes s = state (λ r c. inv_s_box (at s r c))

-- InvMixColumns (5.3.3)
abbrev pub inv_mix_columns : List ℕ → List ℕ
inv_mix_columns s = state (λ r c. slice_index (circulant 0x0e 0x0b 0x0d 0x09 (column s c)) r)

-- a round of InvCipher
unfoldable pub inv_round : List ℕ → List ℕ → List ℕ
inv_round s k = inv_mix_columns (add_round_key (inv_sub_bytes (inv_shift_rows s)) k)

-- the rounds n, n - 1 .. 1 of InvCipher
abbrev pub inv_rounds : ℕ → List ℕ → List ℕ → List ℕ
inv_rounds zero w s = s
inv_rounds (suc n) w s = inv_rounds n w (inv_round s (round_key w (suc n)))

-- InvCipher (5.3), of nr rounds
unfoldable pub inv_cipher : List ℕ → ℕ → List ℕ → List ℕ
inv_cipher s nr w =
    add_round_key (inv_sub_bytes (inv_shift_rows (inv_rounds (nr - 1) w (add_round_key s (round_key w nr))))) (round_key w 0)

-- AES-256 (section 5): keys of 8 words, and 14 rounds
unfoldable pub enc256 : List ℕ → List ℕ → List ℕ
enc256 key b = cipher b 14 (key_expansion 8 14 key)

unfoldable pub dec256 : List ℕ → List ℕ → List ℕ
dec256 key b = inv_cipher b 14 (key_expansion 8 14 key)

abbrev pub the_model : Model
the_model = record { block = 16; key = 32; enc = enc256; dec = dec256 }
