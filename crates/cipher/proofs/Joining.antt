-- Blocks at the front of a buffer, and blocks joined to a key. Assumes nothing.
use Rattle.std.proofs.Common.{◌≡◌, ℕ, ◌+◌, ◌-◌, ◌*◌, ◌≤◌, List, [], ◌∷◌, ◌++◌, map, length, take, drop, sym, ap, ◌∙◌, suc-mul, add-one, arith}
use borrow.Rule.Slice.PartMut.{put_mid}
use Rattle.std.specs.List.{range_with_len, flat_map}
use Rattle.std.proofs.lemmas.List.{map-id, length-append, length-drop, take_at, flat_map_more}
use Rattle.std.proofs.lemmas.List.FromFn.{map-range_with_len_more}
use Rattle.std.proofs.lemmas.Slice.{take-put_mid}

-- what a write to the first n bytes leaves there
pub front : (n : ℕ) (x rest b : List ℕ) → b ≡ x ++ drop n rest → length b ≡ length rest → n ≤ length rest → take n b ≡ x
front n x rest b e l h = ap (take n) e ∙ take_at x (drop n rest) n (omega (arith, ap length e, length-append x (drop n rest), length-drop n rest))

-- the numbers below k + 1 are those below k and k
pub counting_more : (k : ℕ) → range_with_len 0 (k + 1) ≡ range_with_len 0 k ++ k ∷ []
counting_more k =
    sym (map-id (range_with_len 0 (k + 1))) ∙ map-range_with_len_more (λ x. x) 0 k k (omega arith) ∙ ap (λ l. l ++ k ∷ []) (map-id (range_with_len 0 k))

-- one part more
joined_one : (f : ℕ → List ℕ) (k : ℕ) → flat_map f (range_with_len 0 k) ++ f k ≡ flat_map f (range_with_len 0 (k + 1))
joined_one f k = flat_map_more f [] (range_with_len 0 k) k ∙ ap (flat_map f) (sym (counting_more k))

-- the step of a loop that writes the parts f 0, f 1 .. of n bytes, one behind the other
pub joined_step : (f : ℕ → List ℕ) (n k : ℕ) (out part : List ℕ) → k * n ≤ length out → length part ≡ n → part ≡ f k
    → take (k * n) out ≡ flat_map f (range_with_len 0 k)
    → take ((k + 1) * n) (put_mid (k * n) (k * n + n - k * n) out part) ≡ flat_map f (range_with_len 0 (k + 1))
joined_step f n k out part h p e inv =
    let next : (k + 1) * n ≡ k * n + length part = rw (add-one k, p) (suc-mul k n) in
    take-put_mid (k * n) (k * n + n - k * n) out part ((k + 1) * n) next h ∙ (λ i. inv i ++ e i) ∙ joined_one f k
