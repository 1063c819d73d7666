-- Magma, a block cipher on 8 bytes under a key of 32, in the order and the names of RFC 8891, sections 4 and 5. Assumes nothing.
use Rattle.std.specs.Prelude.{ℕ, ◌+◌, ◌*◌, ◌/◌, ◌%◌, ◌^◌, List, [], ◌∷◌, ◌++◌, map, reverse, take, bit_or, bit_xor, slice_index}
use Rattle.std.specs.List.{flat_map}
use Rattle.cipher.specs.Bytes.{word, word_bytes}
use Rattle.cipher.specs.Model.{Model}

-- 4.1: the rows Pi'_0 to Pi'_7, each with its values at 0 to 15
abbrev pub Pi' : List (List ℕ)
Pi' =
    (12 ∷ 4 ∷ 6 ∷ 2 ∷ 10 ∷ 5 ∷ 11 ∷ 9 ∷ 14 ∷ 8 ∷ 13 ∷ 7 ∷ 0 ∷ 3 ∷ 15 ∷ 1 ∷ []) ∷
    (6 ∷ 8 ∷ 2 ∷ 3 ∷ 9 ∷ 10 ∷ 5 ∷ 12 ∷ 1 ∷ 14 ∷ 4 ∷ 7 ∷ 11 ∷ 13 ∷ 0 ∷ 15 ∷ []) ∷
    (11 ∷ 3 ∷ 5 ∷ 8 ∷ 2 ∷ 15 ∷ 10 ∷ 13 ∷ 14 ∷ 1 ∷ 7 ∷ 4 ∷ 12 ∷ 9 ∷ 6 ∷ 0 ∷ []) ∷
    (12 ∷ 8 ∷ 2 ∷ 1 ∷ 13 ∷ 4 ∷ 15 ∷ 6 ∷ 7 ∷ 0 ∷ 10 ∷ 5 ∷ 3 ∷ 14 ∷ 9 ∷ 11 ∷ []) ∷
    (7 ∷ 15 ∷ 5 ∷ 10 ∷ 8 ∷ 1 ∷ 6 ∷ 13 ∷ 0 ∷ 9 ∷ 3 ∷ 14 ∷ 11 ∷ 4 ∷ 2 ∷ 12 ∷ []) ∷
    (5 ∷ 13 ∷ 15 ∷ 6 ∷ 9 ∷ 2 ∷ 12 ∷ 10 ∷ 11 ∷ 7 ∷ 8 ∷ 1 ∷ 4 ∷ 3 ∷ 14 ∷ 0 ∷ []) ∷
    (8 ∷ 14 ∷ 2 ∷ 5 ∷ 6 ∷ 9 ∷ 1 ∷ 12 ∷ 15 ∷ 4 ∷ 11 ∷ 0 ∷ 13 ∷ 10 ∷ 3 ∷ 7 ∷ []) ∷
    (1 ∷ 7 ∷ 14 ∷ 13 ∷ 0 ∷ 5 ∷ 8 ∷ 3 ∷ 4 ∷ 15 ∷ 10 ∷ 6 ∷ 9 ∷ 12 ∷ 11 ∷ 2 ∷ []) ∷
    []

-- each nibble of a replaced by a row, the lowest by the first
abbrev pub substituted : List (List ℕ) → ℕ → ℕ
substituted [] a = 0
substituted (row ∷ rows) a = slice_index row (a % 16) + 16 * substituted rows (a / 16)

-- 4.2: t(a_7 || .. || a_0) = Pi_7(a_7) || .. || Pi_0(a_0), where a_0 is the lowest nibble
unfoldable pub t : ℕ → ℕ
t a = substituted Pi' a

-- a <<<_11: a word of 32 bits rotated by 11 towards its highest bit
abbrev pub rotated : ℕ → ℕ
rotated a = bit_or ((a * 2 ^ 11) % 2 ^ 32) (a / 2 ^ 21)

-- g[k](a) = t(a + k) <<<_11, with the sum modulo 2^32
unfoldable pub g : ℕ → ℕ → ℕ
g k a = rotated (t ((a + k) % 2 ^ 32))

-- G[k](a_1, a_0) = (a_0, g[k](a_0) XOR a_1)
abbrev pub G : ℕ → ℕ × ℕ → ℕ × ℕ
G k a = let (a₁, a₀) = a in (a₀, bit_xor (g k a₀) a₁)

-- G*[k](a_1, a_0) = (g[k](a_0) XOR a_1) || a_0
abbrev pub G* : ℕ → ℕ × ℕ → ℕ × ℕ
G* k a = let (a₁, a₀) = a in (bit_xor (g k a₀) a₁, a₀)

-- 4.3: K_1 to K_8, the words of the key
abbrev pub key_words : List ℕ → List ℕ
key_words key = map (word key) (0 ∷ 4 ∷ 8 ∷ 12 ∷ 16 ∷ 20 ∷ 24 ∷ 28 ∷ [])

-- K_1 to K_32 from K_1 to K_8: K_(i+8) = K_i, K_(i+16) = K_i and K_(i+24) = K_(9-i), for i from 1 to 8
abbrev pub round_keys : List ℕ → List ℕ
round_keys ks = ks ++ ks ++ ks ++ reverse ks

-- G[k_n] .. G[k_1], for the keys k_1 to k_n
abbrev pub applied : List ℕ → ℕ × ℕ → ℕ × ℕ
applied [] a = a
applied (k ∷ ks) a = applied ks (G k a)

-- G*[k_32] G[k_31] .. G[k_1], for the keys k_1 to k_32
unfoldable pub rounds : List ℕ → ℕ × ℕ → ℕ × ℕ
rounds ks a = G* (slice_index ks 31) (applied (take 31 ks) a)

-- the words (a_1, a_0) of a block, and the block of such words
abbrev pub halves : List ℕ → ℕ × ℕ
halves b = (word b 0, word b 4)

abbrev pub whole : ℕ × ℕ → List ℕ
whole a = let (a₁, a₀) = a in word_bytes a₁ ++ word_bytes a₀

-- 5.1: E(a) = G*[K_32] G[K_31] .. G[K_1] (a_1, a_0)
unfoldable pub enc : List ℕ → List ℕ → List ℕ
enc key a = whole (rounds (round_keys (key_words key)) (halves a))

-- 5.2: D(a) = G*[K_1] G[K_2] .. G[K_32] (a_1, a_0)
unfoldable pub dec : List ℕ → List ℕ → List ℕ
dec key a = whole (rounds (reverse (round_keys (key_words key))) (halves a))

-- the key of which the words are K_1 to K_8
abbrev pub key_bytes : List ℕ → List ℕ
key_bytes ks = flat_map word_bytes ks

abbrev pub the_model : Model
the_model = record { block = 8; key = 32; enc = enc; dec = dec }
