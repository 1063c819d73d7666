-- States of 16 bytes, and their columns. Assumes nothing.
use Rattle.std.specs.Prelude.{◌≡◌, ℕ, ◌+◌, ◌<◌, ◌≤◌, List, [], ◌∷◌, ◌++◌, length, take, drop, slice_index, slice_index_or, refl}
use Rattle.std.proofs.Common.{ap, ◌∙◌, le_of_eq, add-zero, arith, get_or-take, get_or-drop}
use Rattle.std.proofs.lemmas.List.{take_all, drop_all, append-nil, length-take, length-drop}
use Rattle.std.proofs.lemmas.List.FromFn.{fill_by_all}
use Rattle.cipher.specs.Bytes.{word_bytes}
use Rattle.aes.specs.Words.{four_at, bytes_of}

-- a buffer that a block fills
pub whole : (f : List ℕ → List ℕ) (b : List ℕ) → length b ≡ 16 → f (take 16 b) ++ drop 16 b ≡ f b
whole f b l =
    let h = le_of_eq l in
    (λ j. f (take_all 16 b h j) ++ drop_all 16 b h j) ∙ append-nil (f b)

-- a list of four, written out
pub four : (s : List ℕ) → length s ≡ 4 → s ≡ four_at s 0
four s h = fill_by_all (λ k. slice_index s k) s 4 0 h (λ k l. refl)

-- four elements from i on
pub take_drop : (w : List ℕ) (i : ℕ) → i + 4 ≤ length w → take 4 (drop i w) ≡ four_at w i
take_drop w i h =
    let long : length (take 4 (drop i w)) ≡ 4 = simp (length-take, length-drop) (omega arith) in
    let at : (k : ℕ) → k < 4 → slice_index (take 4 (drop i w)) k ≡ slice_index w (i + k) = λ k l. get_or-take 4 (drop i w) k 0 l ∙ get_or-drop i w k 0 in
    four (take 4 (drop i w)) long
    ∙ (λ j. (at 0 (omega arith) ∙ ap (slice_index w) (add-zero i)) j ∷ at 1 (omega arith) j ∷ at 2 (omega arith) j ∷ at 3 (omega arith) j ∷ [])

-- the bytes of four words, each of known bytes
pub by_columns : (ws : List ℕ) → length ws ≡ 4 → {a b c d : List ℕ}
    → word_bytes (slice_index ws 0) ≡ a → word_bytes (slice_index ws 1) ≡ b → word_bytes (slice_index ws 2) ≡ c → word_bytes (slice_index ws 3) ≡ d
    → bytes_of ws ≡ a ++ (b ++ (c ++ (d ++ [])))
unfolding bytes_of
by_columns ws h p q r s = ap bytes_of (four ws h) ∙ (λ j. p j ++ (q j ++ (r j ++ (s j ++ []))))

pub length_bytes : (ws : List ℕ) → length ws ≡ 4 → length (bytes_of ws) ≡ 16
length_bytes ws h = ap length (by_columns ws h refl refl refl refl)

-- a column with a byte of each of four others
abbrev pub diagonal : (a b c d : List ℕ) → List ℕ
diagonal a b c d = slice_index a 0 ∷ slice_index b 1 ∷ slice_index c 2 ∷ slice_index d 3 ∷ []

-- the columns that ShiftRows makes of four columns, and those that InvShiftRows makes of them
abbrev pub shifted : List (List ℕ) → List (List ℕ)
shifted s =
    let a : List ℕ = slice_index_or s 0 [] in
    let b : List ℕ = slice_index_or s 1 [] in
    let c : List ℕ = slice_index_or s 2 [] in
    let d : List ℕ = slice_index_or s 3 [] in
    diagonal a b c d ∷ diagonal b c d a ∷ diagonal c d a b ∷ diagonal d a b c ∷ []

abbrev pub unshifted : List (List ℕ) → List (List ℕ)
unshifted s =
    let a : List ℕ = slice_index_or s 0 [] in
    let b : List ℕ = slice_index_or s 1 [] in
    let c : List ℕ = slice_index_or s 2 [] in
    let d : List ℕ = slice_index_or s 3 [] in
    diagonal a d c b ∷ diagonal b a d c ∷ diagonal c b a d ∷ diagonal d c b a ∷ []
