-- The rounds as the code does them, eight keys at a time. Assumes nothing.
use Rattle.std.proofs.Common.{◌≡◌, ℕ, List, [], ◌∷◌, reverse, length, fold, refl, ap, ◌∙◌}
use mathlib.Core.List.{reverse-append, reverse-reverse}
use Rattle.std.proofs.lemmas.List.{length-reverse}
use Rattle.magma.specs.Magma.{G, applied, rounds, round_keys}
use Rattle.magma.specs.Feistel.{applied_append, swapped, rounds_applied, length_round_keys}

-- the rounds as a fold over the keys
pub folded : (ks : List ℕ) (a : ℕ × ℕ) → fold (λ a k. G k a) a ks ≡ applied ks a
folded [] a = refl
folded (k ∷ ks) a = folded ks (G k a)

-- the keys three times forward, and once backward
pub rounds_forward : (ks : List ℕ) (a : ℕ × ℕ) → length ks ≡ 8
    → rounds (round_keys ks) a ≡ swapped (applied (reverse ks) (applied ks (applied ks (applied ks a))))
rounds_forward ks a h =
    let e : applied (round_keys ks) a ≡ applied (reverse ks) (applied ks (applied ks (applied ks a))) = simp applied_append in
    rounds_applied (round_keys ks) a (length_round_keys ks h) ∙ ap swapped e

pub rounds_backward : (ks : List ℕ) (a : ℕ × ℕ) → length ks ≡ 8
    → rounds (reverse (round_keys ks)) a ≡ swapped (applied (reverse ks) (applied (reverse ks) (applied (reverse ks) (applied ks a))))
rounds_backward ks a h =
    let e : applied (reverse (round_keys ks)) a ≡ applied (reverse ks) (applied (reverse ks) (applied (reverse ks) (applied ks a))) = simp (reverse-append, reverse-reverse, applied_append) in
    rounds_applied (reverse (round_keys ks)) a (length-reverse (round_keys ks) ∙ length_round_keys ks h) ∙ ap swapped e
