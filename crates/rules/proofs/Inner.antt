-- The keys of a level come from its inner keys. Assumes nothing.
use Rattle.std.proofs.Common.{◌≡◌, ℕ, zero, suc, ◌/◌, ◌≤◌, true, List, refl, le-div_iff_mul-le, div-mul-le_self, arith}
use native.Mathlib.Nat.{div-zero}
use Rattle.std.proofs.lemmas.Bool.Decides.{nat_tests}
use Rattle.cipher.specs.Model.{Model}
use Rattle.rules.specs.declared.kind.Kind.{Kind}
use Rattle.rules.specs.declared.kind.Kind.TheVariants.{Branch, Fan, Serial, Chain, Master}
use Rattle.rules.specs.Levels.{quota, ranged}
use Rattle.rules.specs.LevelKeys.{level_key}
use Rattle.rules.specs.InnerKeys.{stage, given, inner_key}

pub by_inner : (c : Model) (l : Kind) (p : List ℕ) (r : ℕ) → given c l (inner_key c l p (stage l r)) r ≡ level_key c l p r
by_inner c (Branch a) p r = refl
by_inner c (Fan q) p r = refl
by_inner c (Serial q) p r = refl
by_inner c (Chain q) p r = refl
by_inner c (Master q t) p r = refl

div_rises : (t r s : ℕ) → r ≤ s → r / t ≤ s / t
div_rises zero r s h = let a = div-zero r in let b = div-zero s in omega arith
div_rises (suc t) r s h = (le-div_iff_mul-le {k = suc t} (omega arith)).1 (let d = div-mul-le_self r (suc t) in omega arith)

-- the inner key is never put back
pub stage_rises : (l : Kind) (r s : ℕ) → r ≤ s → stage l r ≤ stage l s
stage_rises (Branch a) r s h = omega arith
stage_rises (Fan q) r s h = omega arith
stage_rises (Serial q) r s h = h
stage_rises (Chain q) r s h = h
stage_rises (Master q t) r s h = div_rises t r s h

pub quota_ranged : (l : Kind) → ranged l ≡ true → (1 ≤ quota l) × (quota l ≤ 4096)
quota_ranged (Branch a) h = (omega arith, omega arith)
quota_ranged (Fan q) h = grind (arith, nat_tests)
quota_ranged (Serial q) h = grind (arith, nat_tests)
quota_ranged (Chain q) h = grind (arith, nat_tests)
quota_ranged (Master q t) h = grind (arith, nat_tests)
