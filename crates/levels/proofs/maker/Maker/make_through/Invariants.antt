use Rattle.std.proofs.Common.{◌≡◌, ℕ, ◌+◌, ◌-◌, ◌≤◌, true, List}
use Rattle.rules.specs.Levels.{ranged}
use Rattle.rules.specs.InnerKeys.{stage}
use Rattle.keys.specs.Moving.{capped}
use Rattle.levels.specs.Advanced.{IsInner}
use Rattle.levels.proofs.maker.Maker.make_through.Given as goal

abbrev pub invariant-loop-remainder : goal.invariant-loop-remainder
invariant-loop-remainder g l =
    let e = l.initial.self in
    let c = g.C.BlockCipher.model in
    let k = g.R.Rule.kind l.rule in
    (capped (l.self.made + 1) ≡ capped (e.made + (l.remainder + 1 - l.first))) ×
    ((p : List ℕ) → ranged k ≡ true → e.inner.stage ≤ stage k l.first → IsInner c k p e.inner → (l.self.inner.stage ≤ stage k l.remainder) × IsInner c k p l.self.inner)
