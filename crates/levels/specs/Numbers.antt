-- The numbers of a level. Assumes nothing.
use Rattle.std.specs.Prelude.{◌≡◌, ◌*◌}
use Rattle.rules.specs.declared.kind.Kind.{Kind}
use Rattle.rules.specs.Levels.{quota}
use Rattle.keys.specs.Stack.{Stack, count}
use Rattle.levels.specs.declared.step.Step.{Step}

-- a level on s that has made nothing yet: how many keys it has, and its quota
abbrev pub Numbers : Kind → Stack → Step → Type 0
Numbers l s t = (t.count ≡ count s * quota l) × (t.quota ≡ quota l)
