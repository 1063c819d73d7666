-- A walk in order makes each key of each level once. Assumes nothing.
use Rattle.std.proofs.Common.{◌≡◌, ℕ, zero, suc, ◌+◌, ◌/◌, ◌%◌, ◌<◌, ◌≤◌, List, ◌++◌, length, drop, Some, None, Option, mod-lt, subst, mul-pos, div-add-mod', div-le_self, arith}
use native.Mathlib.Nat.{zero-div}
use Rattle.std.proofs.lemmas.List.{length-append, length-drop, drop_at}
use Rattle.std.proofs.lemmas.Bool.Decides.{nat_tests}
use Rattle.cipher.specs.Model.{Model}
use Rattle.rules.proofs.Inner.{quota_ranged}
use Rattle.keys.specs.Stack.{Stack, bottom, on, refused, count, quotas, key, above, Accepted}
use Rattle.keys.specs.Moving.{Rises, Moved}
use Rattle.keys.specs.Walks.{Walked}

above_some : (s : Stack) (j : ℕ) → Accepted s → 1 ≤ above (quotas s) j
above_some (bottom m k w) j a = grind (arith, nat_tests)
above_some (on l s) j a = let low = above_some s j a.0 in let q = quota_ranged l a.1 in grind (arith, nat_tests, mul-pos)
above_some (refused x qs) j a = absurd a

div_same : {t : ℕ} (k : ℕ) → 1 ≤ t → (suc k % t ≡ 0 → ⊥) → suc k / t ≡ k / t
div_same {t} k one ne = let d = div-add-mod' k t in let e = div-add-mod' (suc k) t in let l = mod-lt k one in let m = mod-lt (suc k) one in grind arith

div_more : {t : ℕ} (k : ℕ) → 1 ≤ t → suc k % t ≡ 0 → suc k / t ≡ suc (k / t)
div_more {t} k one z = let d = div-add-mod' k t in let e = div-add-mod' (suc k) t in let l = mod-lt k one in let m = mod-lt (suc k) one in grind arith

-- a level goes to the key that it stands at, or to the next
one_more : {q before after : ℕ} (a i : ℕ) → 1 ≤ a → i < 16777216 → Rises q (Some (i / a)) (suc i / a) before after → before ≡ suc (i / a) → after ≡ suc (suc i / a)
one_more a i one few r b = let small = div-le_self i a in let same = div_same i one in let more = div_more i one in grind arith

one_first : {q before after : ℕ} (a : ℕ) → Rises q None (0 / a) before after → before ≡ 0 → after ≡ suc (0 / a)
one_first a r b = let z = zero-div a in grind arith

-- one move more of a walk
pub walked_more : {c : Model} {s now : Stack} {at to : Option ℕ} {before after : ℕ → ℕ} {held out : List ℕ} → count s ≤ 16777216 → Accepted s → now ≡ s → (n : ℕ)
    → Moved c now at n before after to held out → Walked (quotas s) n at before → Walked (quotas s) (n + 1) to after
walked_more few ok e zero m w = grind (arith, one_first)
walked_more {s = s} few ok e (suc i) m w = let one = λ (j : ℕ). above_some s j ok in grind (arith, one_more)

-- the last move of a walk
pub walk_ends : {c : Model} {s now : Stack} {at to : Option ℕ} {before after : ℕ → ℕ} {held rest out : List ℕ} → count s ≤ 16777216 → Accepted s → now ≡ s → (n last : ℕ) → n ≡ last
    → Moved c now at last before after to held out → drop c.key held ≡ rest → Walked (quotas s) n at before
    → (last < count s) × (out ≡ key c s last ++ rest) × Walked (quotas s) (suc last) to after
walk_ends {s = s} {at = at} {before = before} few ok e n last here m behind w =
    let walked = walked_more few ok e last m (subst (λ k. Walked (quotas s) k at before) here w) in
    grind arith

-- the bytes behind a key stay
pub behind : (n : ℕ) (x rest b : List ℕ) → b ≡ x ++ drop n rest → length b ≡ length rest → n ≤ length rest → drop n b ≡ drop n rest
behind n x rest b e l h = grind (arith, length-append, length-drop, drop_at)
