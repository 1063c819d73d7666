-- A stack: a bottom source of keys, and levels on it, each of which makes more keys of each key below.
-- Assumes nothing.
use Rattle.std.specs.Prelude.{◌≡◌, ℕ, ◌*◌, ◌/◌, ◌%◌, ◌<◌, ◌≤◌, Bool, true, false, cond, List, [], ◌∷◌, length, Some, None, Ok, Err, Option, Result, ◌==◌}
use Rattle.std.specs.Option.{unwrap_or}
use Rattle.cipher.specs.Model.{Model}
use Rattle.rules.specs.declared.kind.Kind.{Kind}
use Rattle.rules.specs.Levels.{quota, renews, renews_own, ranged}
use Rattle.rules.specs.LevelKeys.{level_key}
use Rattle.keys.specs.declared.refusals.Refusal.{Refusal}

pub data Stack : Type 0 where
  -- so many keys, these, and whether the renewal constants are enciphered under them too
  bottom : (count : ℕ) → (ℕ → List ℕ) → Bool → Stack
  -- a level on a stack
  on : Kind → Stack → Stack
  -- what a refused making leaves: why, and the levels' quotas, the top level's first
  refused : Refusal → (quotas : List ℕ) → Stack

-- how many keys it has
abbrev pub count : Stack → ℕ
count (bottom m k w) = m
count (on l s) = count s * quota l
count (refused x qs) = 0

-- the quotas of its levels, the top level's first
abbrev pub quotas : Stack → List ℕ
quotas (bottom m k w) = 1 ∷ []
quotas (on l s) = quota l ∷ quotas s
quotas (refused x qs) = qs

-- how many levels it has: they are numbered from 0, the bottom's
abbrev pub levels : Stack → ℕ
levels s = length (quotas s)

-- whether the renewal constants are enciphered under the keys that it gives out
abbrev pub renews_keys : Stack → Bool
renews_keys (bottom m k w) = w
renews_keys (on l s) = renews_own l
renews_keys (refused x qs) = false

-- its own level, or why its making was refused
abbrev pub note : Stack → Result ℕ Refusal
note (bottom m k w) = Ok 0
note (on l s) = Ok (levels s)
note (refused x qs) = Err x

-- key i
abbrev pub key : Model → Stack → ℕ → List ℕ
key c (bottom m k w) i = k i
key c (on l s) i = level_key c l (key c s (i / quota l)) (i % quota l)
key c (refused x qs) i = []

-- the stacks that can be made
abbrev pub Accepted : Stack → Type 0
Accepted (bottom m k w) = (1 ≤ m) × (m ≤ 16777216)
Accepted (on l s) = Accepted s × (ranged l ≡ true) × (levels s < 256) × (count s * quota l ≤ 16777216) × (renews l ≡ true → renews_keys s ≡ false)
Accepted (refused x qs) = ⊥

-- the entry of level j in a list whose first is the top level's
abbrev pub entry : List ℕ → ℕ → Option ℕ
entry [] j = None
entry (x ∷ xs) j = cond (j == length xs) (Some x) (entry xs j)

abbrev pub quota_of : List ℕ → ℕ → ℕ
quota_of qs j = unwrap_or (entry qs j) 1

-- the product of the quotas above level j
abbrev pub above : List ℕ → ℕ → ℕ
above [] j = 1
above (q ∷ qs) j = cond (j == length qs) 1 (q * above qs j)
