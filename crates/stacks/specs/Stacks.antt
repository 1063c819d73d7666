-- The stacks that the programs name. Assumes nothing.
use Rattle.std.specs.Prelude.{ℕ, true, List, [], ◌∷◌}
use Rattle.rules.specs.declared.kind.Kind.{Kind}
use Rattle.rules.specs.declared.kind.Kind.TheVariants.{Branch, Fan, Serial, Chain, Master}
use Rattle.keys.specs.Stack.{Stack}
use Rattle.levels.specs.Making.{stood}
use Rattle.stacks.specs.declared.plan.AxisStack.{AxisStack}
use Rattle.stacks.specs.declared.plan.AxisStack.TheVariants.{Chain as chain_alone, Master as master_alone, SerialChain, FanFanChain}
use Rattle.stacks.specs.declared.plan.Plan.{Plan}
use Rattle.stacks.specs.declared.plan.Plan.TheVariants.{OnAxis, OneFan, OneSerial, OneChain, OneMaster}

-- the levels on the branch of an axis, from the bottom up, where the quota is q
abbrev pub on_branch : AxisStack → ℕ → List Kind
on_branch chain_alone q = Chain q ∷ []
on_branch master_alone q = Master q 16 ∷ []
on_branch SerialChain q = Serial q ∷ Chain 8 ∷ []
on_branch FanFanChain q = Fan q ∷ Fan 16 ∷ Chain 8 ∷ []

-- the levels on the root
abbrev pub planned : Plan → ℕ → List Kind
planned (OnAxis x a) q = Branch a ∷ on_branch x q
planned OneFan q = Fan q ∷ []
planned OneSerial q = Serial q ∷ []
planned OneChain q = Chain q ∷ []
planned (OneMaster t) q = Master q t ∷ []

-- what the makings of the levels, one after the other, leave on a stack
abbrev pub built : List Kind → Stack → Stack
built [] s = s
built (l ∷ ls) s = built ls (stood l true s)
