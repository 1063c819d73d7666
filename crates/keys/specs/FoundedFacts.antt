-- What holds of a bottom in every state. Assumes nothing.
use Rattle.std.proofs.Common.{◌≡◌, ℕ, ◌*◌, ◌/◌, ◌<◌, ◌≤◌, Bool, true, false, cond, List, Some, None, Option, arith}
use Rattle.std.proofs.lemmas.Bool.Decides.{nat_tests}
use Rattle.cipher.specs.Model.{Model, Laws}
use Rattle.cipher.proofs.Sizes.{at_sizes}
use Rattle.keys.specs.Bottom.{founded}
use Rattle.keys.specs.Sources.{Facts}

pub founded_facts : (m : ℕ) (keys : ℕ → List ℕ) (at : Option ℕ) (given : ℕ) → m ≤ 256 → ((i : ℕ) → at ≡ Some i → i < m) → (at ≡ None → given ≡ 0)
    → Facts (founded m keys) at (λ _. given)
founded_facts m keys at given few within fresh = grind (arith, nat_tests)

pub one_few : (b : Bool) → cond b 1 0 ≤ 256
one_few true = omega arith
one_few false = omega arith

pub ring_few : (n : ℕ) (c : Model) → Laws c → n ≤ 256 * c.key → n / c.key ≤ 256
ring_few n c h few = at_sizes c h (λ b k. n ≤ 256 * k → n / k ≤ 256) (λ l. omega (arith, l)) (λ l. omega (arith, l)) (λ l. omega (arith, l)) (λ l. omega (arith, l)) few
