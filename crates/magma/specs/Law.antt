-- Deciphering undoes enciphering. Assumes nothing.
use Rattle.std.specs.Prelude.{◌≡◌, ℕ, ◌+◌, ◌*◌, ◌/◌, ◌%◌, ◌^◌, ◌<◌, Bool, true, ◌&&◌, T, List, [], ◌∷◌, reverse, length, take, slice_index, refl}
use Rattle.std.proofs.Common.{ap, ◌∙◌, inl, inr, pow-suc, arith}
use Rattle.std.proofs.lemmas.Nat.{or_lt, xor_lt}
use Rattle.std.proofs.ByRecursion.{All-append}
use Rattle.cipher.specs.Bytes.{Bytes, word_bytes}
use Rattle.cipher.specs.Model.{Laws}
use Rattle.cipher.proofs.Every.{left, right}
use Rattle.cipher.proofs.Words.{word_of_bytes, small_bytes, small_at}
use Rattle.magma.specs.Magma.{Pi', substituted, t, g, G, applied, rounds, round_keys, key_words, halves, whole, enc, dec, the_model}
use Rattle.magma.specs.Rows.{permutation}
use Rattle.magma.specs.Permutation.{nibble_below}
use Rattle.magma.specs.Feistel.{rounds_back, length_round_keys}
use Rattle.magma.specs.WordsAndBytes.{whole_halves}

-- each row passes the test
abbrev all_permute : List (List ℕ) → Bool
all_permute [] = true
all_permute (row ∷ rows) = permutation row && all_permute rows

substituted_below : (rows : List (List ℕ)) (a : ℕ) → T (all_permute rows) → substituted rows a < 16 ^ length rows
substituted_below [] a h = omega arith
substituted_below (row ∷ rows) a h =
    let one = nibble_below row a (left (permutation row) (all_permute rows) h) in
    let more = substituted_below rows (a / 16) (right (permutation row) (all_permute rows) h) in
    omega (arith, pow-suc 16 (length rows))

-- two words of 32 bits
abbrev Words : ℕ × ℕ → Type 0
Words a = (a.0 < 2 ^ 32) × (a.1 < 2 ^ 32)

g_below : (k a : ℕ) → g k a < 2 ^ 32
unfolding g t
g_below k a =
    let x : ℕ = t ((a + k) % 2 ^ 32) in
    let h : x < 2 ^ 32 = substituted_below Pi' ((a + k) % 2 ^ 32) tt in
    or_lt 32 ((x * 2 ^ 11) % 2 ^ 32) (x / 2 ^ 21) (omega arith) (omega arith)

applied_below : (ks : List ℕ) (a : ℕ × ℕ) → Words a → Words (applied ks a)
applied_below [] a h = h
applied_below (k ∷ ks) a h = applied_below ks (G k a) (h.1, xor_lt 32 _ _ (g_below k a.1) h.0)

rounds_below : (ks : List ℕ) (a : ℕ × ℕ) → Words a → Words (rounds ks a)
unfolding rounds
rounds_below ks a h =
    let q = applied (take 31 ks) a in
    let t = applied_below (take 31 ks) a h in
    (xor_lt 32 _ _ (g_below (slice_index ks 31) q.1) t.0, t.1)

halves_whole : (a : ℕ × ℕ) → Words a → halves (whole a) ≡ a
halves_whole a h = let p = word_of_bytes a.0 h.0 in let q = word_of_bytes a.1 h.1 in λ j. (p j, q j)

halves_below : (b : List ℕ) → ((k : ℕ) → slice_index b k < 256) → Words (halves b)
halves_below b s = (omega (arith, s 0, s 1, s 2, s 3), omega (arith, s 4, s 5, s 6, s 7))

undoes : (key b : List ℕ) → Bytes 8 b → dec key (enc key b) ≡ b
unfolding enc dec
undoes key b h =
    let s = small_at b h.small in
    let ks = round_keys (key_words key) in
    ap (λ a. whole (rounds (reverse ks) a)) (halves_whole (rounds ks (halves b)) (rounds_below ks (halves b) (halves_below b s)))
    ∙ ap whole (rounds_back ks (halves b) (length_round_keys (key_words key) refl)) ∙ whole_halves b s h.long

made : (key b : List ℕ) → Bytes 8 (enc key b)
unfolding enc
made key b =
    let a = rounds (round_keys (key_words key)) (halves b) in
    record { long = refl; small = All-append (λ x. x < 256) (word_bytes a.0) (word_bytes a.1) (small_bytes a.0) (small_bytes a.1) }

pub laws : Laws the_model
laws = record { blocks = inl refl; keys = inr refl; made = λ key b k h. made key b; undo = λ key b k h. undoes key b h }
