-- What holds of a level in every state. Assumes nothing.
use Rattle.std.proofs.Common.{ℕ, ◌<◌, ◌≤◌, Ok, Err, Option, Result, mul-pos, arith}
use Rattle.std.proofs.lemmas.Bool.Decides.{nat_tests}
use Rattle.cipher.specs.Model.{Model}
use Rattle.rules.specs.declared.kind.Kind.{Kind}
use Rattle.rules.proofs.Inner.{quota_ranged}
use Rattle.keys.specs.declared.refusals.MakingFault.{MakingFault}
use Rattle.keys.specs.declared.refusals.Refusal.{Refusal}
use Rattle.keys.specs.Refusals.{making_number}
use Rattle.keys.specs.Stack.{Stack, on, refused, bottom, count, levels, Accepted}
use Rattle.keys.specs.Sources.{Facts}
use Rattle.levels.specs.declared.maker.Maker.{Maker}
use Rattle.levels.specs.declared.step.Step.{Step}
use Rattle.levels.specs.LevelState.{stack_of, ledgers_of, Sits}

pub number_some : (f : MakingFault) → 0 < making_number f
number_some f = grind arith

-- an accepted stack has keys
pub count_some : (s : Stack) → Accepted s → 1 ≤ count s
count_some (bottom m k w) a = a.0
count_some (on l s) a = let low = count_some s a.0 in grind (arith, mul-pos, quota_ranged)
count_some (refused x qs) a = absurd a

-- what holds of a level in every state
pub facts_of : {D : Type 0} (c : Model) (s : Stack) (below : Option ℕ) (low : ℕ → ℕ) (l : Kind) (r : Result Step Refusal) (at : Option ℕ) (maker : Maker D)
    → Sits c s below low l r at maker → Facts (stack_of r l s) at (ledgers_of r (levels s) maker.made low)
facts_of c s below low l (Ok t) at maker h = let some = count_some (on l s) h.accepted in grind (arith, nat_tests)
facts_of c s below low l (Err x) at maker h = let some = number_some x.fault in grind (arith, nat_tests)
