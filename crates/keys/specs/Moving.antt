-- What a move of a source does to its position and its ledgers. Assumes nothing.
use Rattle.std.specs.Prelude.{◌≡◌, ℕ, suc, ◌+◌, ◌-◌, ◌/◌, ◌^◌, ◌<◌, ◌≤◌, min, List, ◌++◌, length, drop, Some, None, Option, ◌≢◌}
use Rattle.cipher.specs.Model.{Model}
use Rattle.keys.specs.declared.refusals.MoveFault.{MoveFault}
use Rattle.keys.specs.declared.refusals.MoveFault.TheVariants.{PastCount}
use Rattle.keys.specs.Stack.{Stack, count, quotas, key, quota_of, above}

-- a ledger stays at 2^32 - 1
abbrev pub capped : ℕ → ℕ
capped n = min n (2 ^ 32 - 1)

-- the number of the key below, for each q keys one
abbrev pub div : ℕ → Option ℕ → Option ℕ
div q None = None
div q (Some i) = Some (i / q)

-- it is the next position: 0 from nowhere
abbrev pub Next : Option ℕ → ℕ → Type 0
Next None to = to ≡ 0
Next (Some from) to = to ≡ suc from

-- how a level's ledger rises with a move, under the level's quota
pub record Rises (q : ℕ) (from : Option ℕ) (to before after : ℕ) : Type 0 where
  pub stays : from ≡ Some to → after ≡ before
  pub once : Next from to → after ≡ capped (before + 1)
  pub some : (from ≢ Some to) → capped (before + 1) ≤ after
  pub few : (from ≢ Some to) → after ≤ capped (before + q)

-- each level's ledger, with a move of the top level; qs are the quotas. Level j moves at its own number, that of
-- the top level div the product of the quotas above j.
abbrev pub Raised : List ℕ → Option ℕ → ℕ → (ℕ → ℕ) → (ℕ → ℕ) → Type 0
Raised qs from to before after =
    (j : ℕ) → j < length qs → Rises (quota_of qs j) (div (above qs j) from) (to / above qs j) (before j) (after j)

-- an accepted move to i: the key stands in the first bytes of the buffer, and the others stay
pub record Moved (c : Model) (s : Stack) (from : Option ℕ) (i : ℕ) (before after : ℕ → ℕ) (position : Option ℕ) (held out : List ℕ) : Type 0 where
  pub within : i < count s
  pub key_is : out ≡ key c s i ++ drop c.key held
  pub stands : position ≡ Some i
  pub ledgers : Raised (quotas s) from i before after

-- for each refusal of a move to i its number, and when it is given
pub record MoveRefusal : Type 1 where
  pub number : ℕ
  pub given : Stack → ℕ → Type 0

abbrev pub move_refusal : MoveFault → MoveRefusal
move_refusal PastCount = record { number = 13; given = λ s i. count s ≤ i }

-- a refused move to i leaves the source and the buffer as they were
pub record Kept (f : MoveFault) (s : Stack) (i : ℕ) (self_same out_same : Type 0) : Type 0 where
  pub past : (move_refusal f).given s i
  pub self_is : self_same
  pub out_is : out_same
