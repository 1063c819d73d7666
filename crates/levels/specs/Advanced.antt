-- How a level's inner key goes on. Assumes nothing.
use Rattle.std.specs.Prelude.{◌≡◌, ℕ, ◌≤◌, true, List}
use Rattle.cipher.specs.Model.{Model}
use Rattle.rules.specs.declared.kind.Kind.{Kind}
use Rattle.rules.specs.Levels.{ranged}
use Rattle.rules.specs.InnerKeys.{stage, inner_key}
use Rattle.levels.specs.declared.maker.Inner.{Inner}

-- an inner key, replaced so many times, of the key below p
abbrev pub IsInner : {D : Type 0} → Model → Kind → List ℕ → Inner D → Type 0
IsInner c l p x = x.key ≡ inner_key c l p x.stage

-- the inner key goes on to the one for remainder r, from one that comes no later than that for remainder `first`
abbrev pub Advanced : {D : Type 0} → Model → Kind → ℕ → ℕ → Inner D → Inner D → Type 0
Advanced c l first r x y = (p : List ℕ) → ranged l ≡ true → x.stage ≤ stage l first → IsInner c l p x → (y.stage ≡ stage l r) × IsInner c l p y
