-- An array made by a function of the index that keeps its state. Assumes nothing.
use Rattle.std.specs.Prelude.{◌≡◌, ℕ, zero, suc, ◌+◌, ◌<◌, ◌≤◌, List, map, slice_index}
use Rattle.std.specs.Array.{IsFromFnResult, IsFromFnResultFrom}
use Rattle.std.specs.Fn.{Called}
use Rattle.std.specs.List.{range_with_len}
use Rattle.std.proofs.Common.{subst, ◌∙◌, add-zero, arith}
use Rattle.std.proofs.lemmas.List.FromFn.{fill_by_all}
use denote.Param.Members.{Mut}

module _ {F : Type 0} (g : Mut F (ℕ × Unit {0}) ℕ) (f : F) (n : ℕ) (h : ℕ → ℕ) (acts : (i y : ℕ) (q : F) → i < n → Called g f (i, tt) y q → (q ≡ f) × (y ≡ h i)) (ys : List ℕ) where
  each : (i m k : ℕ) → i + m ≤ n → IsFromFnResultFrom g f ys i m → k < m → slice_index ys (i + k) ≡ h (i + k)
  each i zero k w r l = absurd (omega arith)
  each i (suc m) zero w r l = rw (add-zero i) (r.2.1 0 ∙ (acts i r.1 r.0 (omega arith) r.3).1)
  each i (suc m) (suc k) w r l =
      let same = (acts i r.1 r.0 (omega arith) r.3).0 in
      let e : i + 1 + k ≡ i + suc k = omega arith in
      let more = each (i + 1) m k (omega arith) (subst (λ p. IsFromFnResultFrom g p ys (i + 1) m) same r.4) (omega arith) in
      subst (λ j. slice_index ys j ≡ h j) e more

  pub all : IsFromFnResult g f ys n → ys ≡ map h (range_with_len 0 n)
  all r = fill_by_all h ys n 0 r.long (λ k l. subst (λ j. slice_index ys j ≡ h j) (omega arith) (each 0 n k (omega arith) r.each l))
