-- The round keys in the words of an expanded key. Assumes nothing.
use Rattle.std.specs.Prelude.{◌≡◌, ℕ, zero, suc, ◌+◌, ◌-◌, ◌*◌, ◌≤◌, List, [], ◌∷◌, ◌++◌, map, reverse, fold, length, take, drop, refl}
use Rattle.std.specs.List.{range_with_len}
use Rattle.std.specs.Simd.{first_chunks}
use Rattle.std.proofs.Common.{sym, ap, ◌∙◌, add-one, arith}
use Rattle.std.proofs.lemmas.List.{drop-drop, reverse-append}
use Rattle.std.proofs.lemmas.List.FromFn.{map-range_with_len_more, take-map-range_with_len}
use Rattle.std.proofs.lemmas.List.Sums.{fold-append}
use Rattle.aes.specs.Aes.{round_key, round, rounds, inv_round, inv_rounds}
use Rattle.aes.proofs.States.{take_drop}

chunks_from : (n i : ℕ) (w : List ℕ) → 4 * i + 4 * n ≤ length w → first_chunks 4 n (drop (4 * i) w) ≡ map (round_key w) (range_with_len i n)
chunks_from zero i w h = refl
chunks_from (suc n) i w h =
    let e : 4 * i + 4 ≡ 4 * (i + 1) = omega arith in
    let more = ap (first_chunks 4 n) (drop-drop 4 (4 * i) w ∙ ap (λ k. drop k w) e) ∙ chunks_from n (i + 1) w (omega arith) in
    λ j. take_drop w (4 * i) (omega arith) j ∷ more j

-- the words of an expanded key, cut into round keys
pub chunks : (n : ℕ) (w : List ℕ) → 4 * n ≤ length w → first_chunks 4 n w ≡ map (round_key w) (range_with_len 0 n)
chunks n w h = chunks_from n 0 w (omega arith)

-- all but the first and the last
pub middle_of : (f : ℕ → List ℕ) (n : ℕ) → 2 ≤ n → take (n - 1 - 1) (drop 1 (map f (range_with_len 0 n))) ≡ map f (range_with_len 1 (n - 2))
middle_of f zero h = absurd (omega arith)
middle_of f (suc m) h =
    take-map-range_with_len f 1 m (suc m - 1 - 1) (omega arith) ∙ ap (λ k. map f (range_with_len 1 k)) (omega arith)

module _ (w : List ℕ) where
  -- the keys of rounds 1 to n
  abbrev pub keys_to : ℕ → List (List ℕ)
  keys_to n = map (round_key w) (range_with_len 1 n)

  keys_more : (n : ℕ) → keys_to (suc n) ≡ keys_to n ++ round_key w (suc n) ∷ []
  keys_more n = ap keys_to (sym (add-one n)) ∙ map-range_with_len_more (round_key w) 1 n (suc n) (omega arith)

  -- the rounds as a fold over their keys
  pub rounds_fold : (b : List ℕ) (n : ℕ) → fold round (rounds 0 w b) (keys_to n) ≡ rounds n w b
  rounds_fold b zero = refl
  rounds_fold b (suc n) =
      let k = round_key w (suc n) in
      ap (fold round (rounds 0 w b)) (keys_more n) ∙ fold-append round (rounds 0 w b) (keys_to n) (k ∷ []) ∙ ap (λ s. round s k) (rounds_fold b n)

  pub inv_rounds_fold : (n : ℕ) (s : List ℕ) → fold inv_round s (reverse (keys_to n)) ≡ inv_rounds n w s
  inv_rounds_fold zero s = refl
  inv_rounds_fold (suc n) s =
      let k = round_key w (suc n) in
      ap (λ ks. fold inv_round s (reverse ks)) (keys_more n) ∙ ap (fold inv_round s) (reverse-append (keys_to n) (k ∷ [])) ∙ inv_rounds_fold n (inv_round s k)
