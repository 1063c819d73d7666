-- The rounds one after the other, and back: the law of a cipher rests on it. Assumes nothing.
use Rattle.std.specs.Prelude.{◌≡◌, ℕ, ◌+◌, ◌<◌, List, [], ◌∷◌, ◌++◌, reverse, length, take, bit_xor, slice_index, refl}
use Rattle.std.proofs.Common.{sym, ap, ◌∙◌, arith}
use mathlib.Core.List.{reverse-cons}
use Rattle.std.specs.Int.Bits.{xor_assoc, xor_self, xor_zero_l}
use Rattle.std.proofs.lemmas.List.{take_more, take_all, length-append, length-reverse}
use Rattle.magma.specs.Magma.{g, G, applied, rounds, round_keys}

pub applied_append : (xs ys : List ℕ) (a : ℕ × ℕ) → applied (xs ++ ys) a ≡ applied ys (applied xs a)
applied_append [] ys a = refl
applied_append (x ∷ xs) ys a = applied_append xs ys (G x a)

-- one round more
pub applied_more : (ks : List ℕ) (i : ℕ) (a : ℕ × ℕ) → i < length ks → applied (take (i + 1) ks) a ≡ G (slice_index ks i) (applied (take i ks) a)
applied_more ks i a h = ap (λ l. applied l a) (take_more ks i 0 h) ∙ applied_append (take i ks) (slice_index ks i ∷ []) a

abbrev pub swapped : ℕ × ℕ → ℕ × ℕ
swapped a = (a.1, a.0)

-- the last round is one like the others, and a swap
pub rounds_applied : (ks : List ℕ) (a : ℕ × ℕ) → length ks ≡ 32 → rounds ks a ≡ swapped (applied ks a)
unfolding rounds
rounds_applied ks a h = ap swapped (sym (applied_more ks 31 a (omega arith)) ∙ ap (λ l. applied l a) (take_all 32 ks (omega arith)))

big_g_back : (k : ℕ) (a : ℕ × ℕ) → G k (swapped (G k a)) ≡ swapped a
big_g_back k a =
    ap (λ n. (a.1, n)) (sym (xor_assoc (g k a.1) (g k a.1) a.0) ∙ ap (λ n. bit_xor n a.0) (xor_self (g k a.1)) ∙ xor_zero_l a.0)

applied_back : (ks : List ℕ) (a : ℕ × ℕ) → applied (reverse ks) (swapped (applied ks a)) ≡ swapped a
applied_back [] a = refl
applied_back (k ∷ ks) a =
    let q : ℕ × ℕ = swapped (applied ks (G k a)) in
    ap (λ l. applied l q) (reverse-cons k ks) ∙ applied_append (reverse ks) (k ∷ []) q
    ∙ ap (G k) (applied_back ks (G k a)) ∙ big_g_back k a

pub rounds_back : (ks : List ℕ) (a : ℕ × ℕ) → length ks ≡ 32 → rounds (reverse ks) (rounds ks a) ≡ a
rounds_back ks a h =
    ap (rounds (reverse ks)) (rounds_applied ks a h)
    ∙ rounds_applied (reverse ks) (swapped (applied ks a)) (length-reverse ks ∙ h)
    ∙ ap swapped (applied_back ks a)

pub length_round_keys : (ks : List ℕ) → length ks ≡ 8 → length (round_keys ks) ≡ 32
length_round_keys ks h = simp (length-append, length-reverse) (omega arith)
