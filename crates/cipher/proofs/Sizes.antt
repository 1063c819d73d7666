-- What holds of the lengths that a cipher may have. Assumes nothing.
use Rattle.std.proofs.Common.{◌≡◌, ℕ, ◌+◌, ◌*◌, ◌/◌, ◌<◌, ◌≤◌, ◌⊎◌, sym, refl, subst, inl, inr, arith}
use Rattle.cipher.specs.Model.{Model, Laws}
use Rattle.cipher.specs.Derivation.{parts}

-- what holds at each length holds at a cipher's: P of a block's and a key's
at_lengths : (P : ℕ → ℕ → Type 0) → P 8 16 → P 8 32 → P 16 16 → P 16 32
    → (n k : ℕ) → (n ≡ 8) ⊎ (n ≡ 16) → (k ≡ 16) ⊎ (k ≡ 32) → P n k
at_lengths P a b c d n k (inl e) (inl f) = subst (λ x. P x k) (sym e) (subst (P 8) (sym f) a)
at_lengths P a b c d n k (inl e) (inr f) = subst (λ x. P x k) (sym e) (subst (P 8) (sym f) b)
at_lengths P a b c d n k (inr e) (inl f) = subst (λ x. P x k) (sym e) (subst (P 16) (sym f) c)
at_lengths P a b c d n k (inr e) (inr f) = subst (λ x. P x k) (sym e) (subst (P 16) (sym f) d)

module _ (c : Model) (h : Laws c) where
  pub at_sizes : (P : ℕ → ℕ → Type 0) → P 8 16 → P 8 32 → P 16 16 → P 16 32 → P c.block c.key
  at_sizes P p q r s = at_lengths P p q r s c.block c.key h.blocks h.keys

  pub block_some : 0 < c.block
  block_some = at_sizes (λ n k. 0 < n) (omega arith) (omega arith) (omega arith) (omega arith)

  pub block_within : c.block ≤ 16
  block_within = at_sizes (λ n k. n ≤ 16) (omega arith) (omega arith) (omega arith) (omega arith)

  pub key_within : c.key ≤ 32
  key_within = at_sizes (λ n k. k ≤ 32) (omega arith) (omega arith) (omega arith) (omega arith)

  -- whole blocks make a key, at most four
  pub parts_all : parts c * c.block ≡ c.key
  parts_all = at_sizes (λ n k. k / n * n ≡ k) refl refl refl refl

  pub part_within : (j : ℕ) → j < parts c → (j * c.block + c.block ≤ c.key) × (j < 4)
  part_within j =
      at_sizes (λ n k. j < k / n → (j * n + n ≤ k) × (j < 4))
      (λ l. (omega arith, omega arith)) (λ l. (omega arith, omega arith)) (λ l. (omega arith, omega arith)) (λ l. (omega arith, omega arith))

  -- the same of the lengths n and k that the code was told, within the room for a key
  pub told_within : (n k j : ℕ) → n ≡ c.block → k ≡ c.key → j < k / n → j * n + n ≤ 32
  told_within n k j e f l =
      let last : j < parts c = subst (λ x. j < x) (λ i. f i / e i) l in
      let here = part_within j last in
      let few = key_within in
      subst (λ x. j * x + x ≤ 32) (sym e) (omega arith)
