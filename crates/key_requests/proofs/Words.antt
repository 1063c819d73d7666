-- Words that name no stack. Assumes nothing.
use Rattle.std.proofs.Common.{ℕ, ◌≤◌, List, length, ap, arith}
use Rattle.stacks.specs.declared.plan.Plan.{Plan}
use Rattle.stacks.specs.declared.plan.Plan.TheVariants.{OnAxis, OneFan, OneSerial, OneChain, OneMaster}
use Rattle.key_requests.specs.Requests.{MasterWord, RootStack}

-- a word longer than the names is at most a master's
pub long_word : (word : List ℕ) (p : Plan) → 7 ≤ length word → ((t : ℕ) → MasterWord word t → ⊥) → RootStack word p → ⊥
long_word word OneFan long m e = omega (arith, ap length e)
long_word word OneSerial long m e = omega (arith, ap length e)
long_word word OneChain long m e = omega (arith, ap length e)
long_word word (OneMaster t) long m e = m t e
long_word word (OnAxis x a) long m e = e
