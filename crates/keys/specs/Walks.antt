-- A walk through the keys of a source, in order. Assumes nothing.
use Rattle.std.specs.Prelude.{◌≡◌, ℕ, zero, suc, ◌/◌, ◌<◌, List, length, Some, None, Option}
use Rattle.keys.specs.Stack.{above}

-- where a source stands and what its ledgers are when it was fresh and has gone through its first n keys: each level
-- has made as many keys as these need, those from 0 to its own number
abbrev pub Walked : List ℕ → ℕ → Option ℕ → (ℕ → ℕ) → Type 0
Walked qs zero position ledgers = (position ≡ None) × ((j : ℕ) → ledgers j ≡ 0)
Walked qs (suc i) position ledgers = (position ≡ Some i) × ((j : ℕ) → j < length qs → ledgers j ≡ suc (i / above qs j))
