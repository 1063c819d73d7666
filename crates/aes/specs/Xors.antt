-- Sums in another order. Assumes nothing.
use Rattle.std.specs.Prelude.{◌≡◌, ℕ}
use Rattle.std.proofs.Common.{sym, ap, ◌∙◌}
use Rattle.std.specs.Int.Bits.{xor_assoc, xor_self, xor_zero_r}
use Rattle.std.proofs.lemmas.Nat.{xor_comm}
use Rattle.aes.specs.Field.{◌⊕◌}

pub cancel : (a b : ℕ) → a ⊕ b ⊕ b ≡ a
cancel a b = xor_assoc a b b ∙ ap (λ n. a ⊕ n) (xor_self b) ∙ xor_zero_r a

pub swap : (a b c d : ℕ) → a ⊕ b ⊕ (c ⊕ d) ≡ a ⊕ c ⊕ (b ⊕ d)
swap a b c d =
    xor_assoc a b (c ⊕ d)
    ∙ ap (λ n. a ⊕ n) (sym (xor_assoc b c d) ∙ ap (λ n. n ⊕ d) (xor_comm b c) ∙ xor_assoc c b d)
    ∙ sym (xor_assoc a c (b ⊕ d))

pub turn4 : (a b c d : ℕ) → a ⊕ b ⊕ c ⊕ d ≡ b ⊕ c ⊕ d ⊕ a
turn4 a b c d = ap (λ n. n ⊕ d) (xor_assoc a b c) ∙ xor_assoc a (b ⊕ c) d ∙ xor_comm a (b ⊕ c ⊕ d)

add4 : (a b c d e f g h : ℕ) → a ⊕ b ⊕ c ⊕ d ⊕ (e ⊕ f ⊕ g ⊕ h) ≡ a ⊕ e ⊕ (b ⊕ f) ⊕ (c ⊕ g) ⊕ (d ⊕ h)
add4 a b c d e f g h =
    swap (a ⊕ b ⊕ c) d (e ⊕ f ⊕ g) h
    ∙ ap (λ n. n ⊕ (d ⊕ h)) (swap (a ⊕ b) c (e ⊕ f) g ∙ ap (λ n. n ⊕ (c ⊕ g)) (swap a b e f))

-- the sum of the rows' sums is that of the columns' sums
pub transposed : (a b c d e f g h i j k l m n o p : ℕ)
    → a ⊕ b ⊕ c ⊕ d ⊕ (e ⊕ f ⊕ g ⊕ h) ⊕ (i ⊕ j ⊕ k ⊕ l) ⊕ (m ⊕ n ⊕ o ⊕ p)
    ≡ a ⊕ e ⊕ i ⊕ m ⊕ (b ⊕ f ⊕ j ⊕ n) ⊕ (c ⊕ g ⊕ k ⊕ o) ⊕ (d ⊕ h ⊕ l ⊕ p)
transposed a b c d e f g h i j k l m n o p =
    let two = add4 a b c d e f g h in
    let three = ap (λ x. x ⊕ (i ⊕ j ⊕ k ⊕ l)) two ∙ add4 (a ⊕ e) (b ⊕ f) (c ⊕ g) (d ⊕ h) i j k l in
    ap (λ x. x ⊕ (m ⊕ n ⊕ o ⊕ p)) three ∙ add4 (a ⊕ e ⊕ i) (b ⊕ f ⊕ j) (c ⊕ g ⊕ k) (d ⊕ h ⊕ l) m n o p

pub first_of : (a : ℕ) → a ⊕ 0 ⊕ 0 ⊕ 0 ≡ a
first_of a = xor_zero_r (a ⊕ 0 ⊕ 0) ∙ xor_zero_r (a ⊕ 0) ∙ xor_zero_r a
