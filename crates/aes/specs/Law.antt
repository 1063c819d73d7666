-- InvCipher undoes Cipher, with any number of rounds and any words. Assumes nothing.
use Rattle.std.specs.Prelude.{◌≡◌, ℕ, zero, suc, ◌+◌, ◌-◌, ◌*◌, ◌/◌, ◌%◌, ◌<◌, List, length, slice_index, refl}
use Rattle.std.proofs.Common.{sym, ap, ◌∙◌, inr}
use Rattle.std.proofs.lemmas.List.FromFn.{fill_by_all}
use Rattle.std.proofs.lemmas.Nat.{xor_lt}
use Rattle.std.specs.List.{range_with_len, AllByRecursion}
use Rattle.std.proofs.ByRecursion.{All-map, All-from_get_or}
use Rattle.cipher.specs.Bytes.{Bytes, word_bytes}
use Rattle.cipher.specs.Model.{Laws}
use Rattle.cipher.proofs.Words.{small_bytes, small_at}
use Rattle.aes.specs.Field.{◌⊕◌, ◌•◌}
use Rattle.aes.specs.Aes.{at, state, s_box, sub_bytes, shift_rows, column, product, circulant, mix_columns, add_round_key, round_key, round, rounds, last_round, cipher, key_expansion, inv_shift_rows, inv_sub_bytes, inv_mix_columns, inv_round, inv_rounds, inv_cipher, enc256, dec256, the_model}
use Rattle.aes.specs.Fields.{product_below}
use Rattle.aes.specs.Mixing.{unmixed}
use Rattle.aes.specs.SBoxes.{s_box_below, inv_s_box_s_box}
use Rattle.aes.specs.Xors.{cancel}

-- a state is what stands in its rows and columns
pub spread : (s : List ℕ) → length s ≡ 16 → state (at s) ≡ s
spread s l = sym (fill_by_all (λ i. slice_index s i) s 16 0 l (λ k h. refl))

-- every number of the list is a byte
abbrev Small : List ℕ → Type 0
Small = AllByRecursion (λ x. x < 256)

small_state : (f : ℕ → ℕ → ℕ) → ((r c : ℕ) → f r c < 256) → Small (state f)
small_state f h =
    All-map (λ x. x < 256) (λ i. f (i % 4) (i / 4)) (range_with_len 0 16)
    (All-from_get_or (λ i. f (i % 4) (i / 4) < 256) (range_with_len 0 16) 0 (λ k l. h _ _))

-- each step keeps bytes, and is undone
small_key : (s k : List ℕ) → Small s → Small (add_round_key s k)
unfolding add_round_key
small_key s k h =
    small_state _ (λ r c. xor_lt 8 (at s r c) (slice_index (word_bytes (slice_index k c)) r) (small_at s h (r + 4 * c)) (small_at (word_bytes (slice_index k c)) (small_bytes (slice_index k c)) r))

key_undone : (s k : List ℕ) → length s ≡ 16 → add_round_key (add_round_key s k) k ≡ s
unfolding add_round_key
key_undone s k l = (λ j. state (λ r c. cancel (at s r c) (slice_index (word_bytes (slice_index k c)) r) j)) ∙ spread s l

small_shifted : (s : List ℕ) → Small (shift_rows (sub_bytes s))
small_shifted s =
    let t = small_state (λ r c. s_box (at s r c)) (λ r c. s_box_below (at s r c)) in
    small_state _ (λ r c. small_at (sub_bytes s) t (r + 4 * ((c + r) % 4)))

shifted_undone : (s : List ℕ) → length s ≡ 16 → Small s → inv_sub_bytes (inv_shift_rows (shift_rows (sub_bytes s))) ≡ s
shifted_undone s l h = (λ j. state (λ r c. inv_s_box_s_box (at s r c) (small_at s h (r + 4 * c)) j)) ∙ spread s l

small_product : (p q r s : ℕ) (b : List ℕ) → Small b → product p q r s b < 256
small_product p q r s b h =
    let m : (k i : ℕ) → k • slice_index b i < 256 = λ k i. product_below k (slice_index b i) (small_at b h i) in
    let two = xor_lt 8 (p • slice_index b 0) (q • slice_index b 1) (m p 0) (m q 1) in
    let three = xor_lt 8 (p • slice_index b 0 ⊕ q • slice_index b 1) (r • slice_index b 2) two (m r 2) in
    xor_lt 8 (p • slice_index b 0 ⊕ q • slice_index b 1 ⊕ r • slice_index b 2) (s • slice_index b 3) three (m s 3)

small_mixed : (s : List ℕ) → Small s → Small (mix_columns s)
small_mixed s h =
    let at_s : (r c : ℕ) → at s r c < 256 = λ r c. small_at s h (r + 4 * c) in
    let col : (c : ℕ) → Small (column s c) = λ c. (at_s 0 c, (at_s 1 c, (at_s 2 c, (at_s 3 c, tt)))) in
    let row : (p q r t c : ℕ) → product p q r t (column s c) < 256 = λ p q r t c. small_product p q r t (column s c) (col c) in
    let mixed : (c : ℕ) → Small (circulant 2 3 1 1 (column s c)) = λ c. (row 2 3 1 1 c, (row 1 2 3 1 c, (row 1 1 2 3 c, (row 3 1 1 2 c, tt)))) in
    small_state _ (λ r c. small_at (circulant 2 3 1 1 (column s c)) (mixed c) r)

mixed_undone : (s : List ℕ) → length s ≡ 16 → Small s → inv_mix_columns (mix_columns s) ≡ s
mixed_undone s l h =
    let at_s : (r c : ℕ) → at s r c < 256 = λ r c. small_at s h (r + 4 * c) in
    (λ j. state (λ r c. slice_index (unmixed (at s 0 c) (at s 1 c) (at s 2 c) (at s 3 c) (at_s 0 c) (at_s 1 c) (at_s 2 c) (at_s 3 c) j) r))
    ∙ spread s l

-- a round
long_key : (s k : List ℕ) → length (add_round_key s k) ≡ 16
unfolding add_round_key
long_key s k = refl

-- what stands between ShiftRows and MixColumns of a round, from the same of the next round
round_undone : (s k : List ℕ) → inv_round (shift_rows (sub_bytes (round s k))) k ≡ shift_rows (sub_bytes s)
unfolding inv_round round
round_undone s k =
    let t = shift_rows (sub_bytes s) in
    let u = mix_columns t in
    let small = small_key u k (small_mixed t (small_shifted s)) in
    ap (λ v. inv_mix_columns (add_round_key v k)) (shifted_undone (add_round_key u k) (long_key u k) small)
    ∙ ap inv_mix_columns (key_undone u k refl)
    ∙ mixed_undone t refl (small_shifted s)

-- n rounds
rounds_undone : (n : ℕ) (w s : List ℕ) → inv_rounds n w (shift_rows (sub_bytes (rounds n w s))) ≡ shift_rows (sub_bytes (rounds 0 w s))
rounds_undone zero w s = refl
rounds_undone (suc n) w s = ap (inv_rounds n w) (round_undone (rounds n w s) (round_key w (suc n))) ∙ rounds_undone n w s

cipher_undone : (nr : ℕ) (w s : List ℕ) → length s ≡ 16 → Small s → inv_cipher (cipher s nr w) nr w ≡ s
unfolding inv_cipher cipher last_round
cipher_undone nr w s l h =
    let n = nr - 1 in
    let k = round_key w 0 in
    ap (λ u. add_round_key (inv_sub_bytes (inv_shift_rows (inv_rounds n w u))) k) (key_undone (shift_rows (sub_bytes (rounds n w s))) (round_key w nr) refl)
    ∙ ap (λ u. add_round_key (inv_sub_bytes (inv_shift_rows u)) k) (rounds_undone n w s)
    ∙ ap (λ u. add_round_key u k) (shifted_undone (add_round_key s k) (long_key s k) (small_key s k h))
    ∙ key_undone s k l

cipher_bytes : (nr : ℕ) (w s : List ℕ) → Bytes 16 (cipher s nr w)
unfolding cipher last_round
cipher_bytes nr w s =
    let t = rounds (nr - 1) w s in
    record {
      long = long_key (shift_rows (sub_bytes t)) (round_key w nr);
      small = small_key (shift_rows (sub_bytes t)) (round_key w nr) (small_shifted t);
    }

pub laws : Laws the_model
unfolding enc256 dec256
laws = record {
  blocks = inr refl;
  keys = inr refl;
  made = λ key b k h. cipher_bytes 14 (key_expansion 8 14 key) b;
  undo = λ key b k h. cipher_undone 14 (key_expansion 8 14 key) b h.long h.small;
}
