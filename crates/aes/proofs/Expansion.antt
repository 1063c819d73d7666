-- KeyExpansion, a word at a time, and the key that it begins with. Assumes nothing.
use Rattle.std.proofs.Common.{◌≡◌, ℕ, zero, suc, ◌+◌, ◌-◌, ◌*◌, ◌<◌, ◌≤◌, List, [], ◌∷◌, ◌++◌, map, length, get_or, take, set, sym, refl, ap, ◌∙◌, add-zero, zero-add, add-one, arith, get_or-take}
use Rattle.std.specs.List.{range_with_len}
use Rattle.std.proofs.lemmas.List.FromFn.{length-map-range_with_len, map-range_with_len_more}
use Rattle.std.proofs.lemmas.List.{take_all, take_more_set, take-append-le, take-append-drop, take-take, drop-take, length_push, flat_map_more}
use Rattle.cipher.specs.Bytes.{word, word_bytes}
use Rattle.cipher.proofs.Words.{bytes_word4}
use Rattle.aes.specs.Field.{◌⊕◌}
use Rattle.aes.specs.Aes.{expanded, temp}
use Rattle.aes.specs.Words.{four_at, bytes_of}
use Rattle.aes.proofs.States.{take_drop}

-- the word that the code writes at i is the next of the expansion
pub expanded_more : (nk : ℕ) (key w : List ℕ) (i : ℕ) → 0 < nk → nk ≤ i → i < length w → take i w ≡ expanded nk (i - nk) key
    → take (i + 1) (set w i (get_or w (i - nk) 0 ⊕ temp nk i (get_or w (i - 1) 0))) ≡ expanded nk (i + 1 - nk) key
unfolding expanded
expanded_more nk key w i pos low h e =
    let ws = expanded nk (i - nk) key in
    let n : nk + (i - nk) ≡ i = omega arith in
    let m : suc (i - nk) ≡ i + 1 - nk = omega arith in
    let back : get_or ws (i - nk) 0 ≡ get_or w (i - nk) 0 = ap (λ l. get_or l (i - nk) 0) (sym e) ∙ get_or-take i w (i - nk) 0 (omega arith) in
    let last : get_or ws (i - 1) 0 ≡ get_or w (i - 1) 0 = ap (λ l. get_or l (i - 1) 0) (sym e) ∙ get_or-take i w (i - 1) 0 (omega arith) in
    let new = ap (λ l. get_or ws (l - nk) 0 ⊕ temp nk l (get_or ws (l - 1) 0)) n ∙ (λ j. back j ⊕ temp nk i (last j)) in
    take_more_set w i _ h ∙ (λ j. e j ++ sym new j ∷ []) ∙ ap (λ l. expanded nk l key) m

length_expanded : (nk n : ℕ) (key : List ℕ) → length (expanded nk n key) ≡ nk + n
unfolding expanded
length_expanded nk zero key = length-map-range_with_len (λ i. word key (4 * i)) 0 nk ∙ sym (add-zero nk)
length_expanded nk (suc n) key = length_push (expanded nk n key) _ ∙ ap (λ l. l + 1) (length_expanded nk n key) ∙ omega arith

pub first_words : (nk n : ℕ) (key : List ℕ) → take nk (expanded nk n key) ≡ map (λ i. word key (4 * i)) (range_with_len 0 nk)
unfolding expanded
first_words nk zero key =
    let l = length-map-range_with_len (λ i. word key (4 * i)) 0 nk in
    take_all nk (map (λ i. word key (4 * i)) (range_with_len 0 nk)) (omega arith)
first_words nk (suc n) key =
    let l = length_expanded nk n key in
    take-append-le nk (expanded nk n key) _ (omega arith) ∙ first_words nk n key

-- four more bytes of a list
take_four : (xs : List ℕ) (i : ℕ) → i + 4 ≤ length xs → take (i + 4) xs ≡ take i xs ++ four_at xs i
take_four xs i h =
    let next = drop-take i 4 xs ∙ take_drop xs i h in
    sym (take-append-drop i (take (i + 4) xs)) ∙ (λ j. take-take i (i + 4) xs (omega arith) j ++ next j)

-- the words of a key hold its bytes
pub bytes_of_words : (nk : ℕ) (key : List ℕ) → 4 * nk ≤ length key → ((i : ℕ) → get_or key i 0 < 256)
    → bytes_of (map (λ i. word key (4 * i)) (range_with_len 0 nk)) ≡ take (4 * nk) key
unfolding bytes_of
bytes_of_words zero key h small = refl
bytes_of_words (suc n) key h small =
    let f : ℕ → ℕ = λ i. word key (4 * i) in
    let b = 4 * n in
    let e : b + 4 ≡ 4 * suc n = omega arith in
    let last = ap (λ m. map f (range_with_len 0 m)) (sym (add-one n)) ∙ map-range_with_len_more f 0 n n (zero-add n) in
    let before = bytes_of_words n key (omega arith) small in
    let new = bytes_word4 _ _ _ _ (small b) (small (b + 1)) (small (b + 2)) (small (b + 3)) in
    ap bytes_of last ∙ sym (flat_map_more word_bytes [] (map f (range_with_len 0 n)) (f n)) ∙ (λ j. before j ++ new j)
    ∙ sym (take_four key b (omega arith)) ∙ ap (λ m. take m key) e

-- the first words hold a key of eight
pub front_is : {nk : ℕ} {key : List ℕ} (w : List ℕ) → nk ≡ 8 → bytes_of (take nk w) ≡ take (4 * nk) key → length key ≤ 32 → bytes_of (take 8 w) ≡ key
front_is {key = key} w e h l = ap (λ k. bytes_of (take k w)) (sym e) ∙ h ∙ ap (λ k. take (4 * k) key) e ∙ take_all 32 key l
