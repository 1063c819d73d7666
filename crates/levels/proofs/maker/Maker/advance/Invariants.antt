use Rattle.std.proofs.Common.{◌≡◌, ℕ, List}
use Rattle.levels.specs.Advanced.{IsInner}
use Rattle.levels.proofs.maker.Maker.advance.Given as goal

abbrev pub invariant-loop-stage : goal.invariant-loop-stage
invariant-loop-stage g l =
    let e = l.initial.self in
    let c = g.C.BlockCipher.model in
    let k = g.R.Rule.kind l.rule in
    (l.self.made ≡ e.made) × (l.self.inner.stage ≡ l.stage) × ((p : List ℕ) → IsInner c k p e.inner → IsInner c k p l.self.inner)
