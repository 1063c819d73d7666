-- The words after the first. Assumes nothing.
use Rattle.std.proofs.Common.{◌≡◌, ℕ, List, [], ◌∷◌, map, length, get_or, refl, arith, Bor}

-- stands for a word that is not there
abbrev pub no_word : Bor (List ℕ)
no_word = record { ref_ptr = (0, 0); now = [] }

pub three : (xs : List (Bor (List ℕ))) → length xs ≡ 3
    → map (λ x. x.now) xs ≡ (get_or xs 0 no_word).now ∷ (get_or xs 1 no_word).now ∷ (get_or xs 2 no_word).now ∷ []
three [] h = absurd (omega arith)
three (x ∷ []) h = absurd (omega arith)
three (x ∷ y ∷ []) h = absurd (omega arith)
three (x ∷ y ∷ z ∷ []) h = refl
three (x ∷ y ∷ z ∷ w ∷ xs) h = absurd (omega arith)
