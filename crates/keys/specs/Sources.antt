-- What holds of every source, in every state. Assumes nothing.
use Rattle.std.specs.Prelude.{◌≡◌, ℕ, ◌<◌, cond, Some, None, Option, nat_lt}
use Rattle.keys.specs.Refusals.{note_number}
use Rattle.keys.specs.Stack.{Stack, count, note, Accepted}

pub record Facts (s : Stack) (position : Option ℕ) (ledgers : ℕ → ℕ) : Type 0 where
  -- a source that has keys was accepted
  pub accepted : 0 < count s → Accepted s
  -- and the number of its note is 0
  pub made : 0 < count s → note_number (note s) ≡ 0
  -- one that has none has a note with another number
  pub refused : count s ≡ 0 → 0 < note_number (note s)
  -- it stands at one of its keys
  pub within : (i : ℕ) → position ≡ Some i → i < count s
  -- or nowhere, with nothing made: it is fresh
  pub fresh : position ≡ None → (j : ℕ) → ledgers j ≡ 0

-- what is told of level j, of n levels
abbrev pub told : ℕ → (ℕ → ℕ) → ℕ → Option ℕ
told n ledgers j = cond (nat_lt j n) (Some (ledgers j)) None
