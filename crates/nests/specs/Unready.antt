-- A bottom of another make, which was refused. Assumes nothing.
use Rattle.std.proofs.Common.{[], ◌∷◌, None, arith}
use Rattle.keys.specs.declared.refusals.MakingFault.{MakingFault}
use Rattle.keys.specs.Stack.{Stack, refused}
use Rattle.keys.specs.Sources.{Facts}

abbrev pub unready : MakingFault → Stack
unready f = refused (record { level = 0; fault = f }) (1 ∷ [])

pub unready_facts : (f : MakingFault) → Facts (unready f) None (λ j. 0)
unready_facts f = grind arith
