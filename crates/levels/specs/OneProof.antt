-- That a level sits on a source can be shown in one way at most, as a ghost field asks. Assumes nothing.
use Rattle.std.specs.Prelude.{◌≡◌, ℕ, ◌*◌, ◌/◌, ◌%◌, ◌<◌, IfSome, Some, None, Ok, Err, Option, Result}
use Rattle.std.proofs.Props.{props}
use Rattle.cipher.specs.Model.{Model}
use Rattle.rules.specs.declared.kind.Kind.{Kind}
use Rattle.rules.specs.Levels.{quota}
use Rattle.rules.specs.LevelKeys.{level_key}
use Rattle.rules.specs.InnerKeys.{stage}
use Rattle.keys.specs.declared.refusals.Refusal.{Refusal}
use Rattle.keys.specs.Stack.{Stack, bottom, on, refused, count, key, Accepted}
use Rattle.keys.specs.Moving.{div}
use Rattle.levels.specs.declared.maker.Maker.{Maker}
use Rattle.levels.specs.declared.step.Step.{Step}
use Rattle.levels.specs.Advanced.{IsInner}
use Rattle.levels.specs.LevelState.{Here, Stands, Sits}

Accepted-prop : (s : Stack) → IsProp (Accepted s)
Accepted-prop (bottom m k w) = hlevel props
Accepted-prop (on l s) = hlevel (props, Accepted-prop s)
Accepted-prop (refused x qs) = hlevel props

module _ {D : Type 0} (c : Model) (s : Stack) (l : Kind) (t : Step) (maker : Maker D) where
  Here-prop : (i : ℕ) → IsProp (Here c s l t maker i)
  Here-prop i x y =
      let within_prop : IsProp (i < t.count) = hlevel props in
      let remainder_prop : IsProp (t.remainder ≡ i % t.quota) = hlevel props in
      let stage_prop : IsProp (maker.inner.stage ≡ stage l (i % t.quota)) = hlevel props in
      let inner_prop : IsProp (IsInner c l (key c s (i / t.quota)) maker.inner) = hlevel props in
      let current_prop : IsProp (maker.current ≡ level_key c l (key c s (i / t.quota)) (i % t.quota)) = hlevel props in
      λ k. record {
        within = within_prop x.within y.within k;
        remainder_is = remainder_prop x.remainder_is y.remainder_is k;
        stage_is = stage_prop x.stage_is y.stage_is k;
        inner_is = inner_prop x.inner_is y.inner_is k;
        current_is = current_prop x.current_is y.current_is k;
      }

  At-prop : (at : Option ℕ) → IsProp (IfSome at (Here c s l t maker))
  At-prop None = hlevel props
  At-prop (Some i) = Here-prop i

  Stands-prop : (below : Option ℕ) (low : ℕ → ℕ) (at : Option ℕ) → IsProp (Stands c s below low l t at maker)
  Stands-prop below low at x y =
      let accepted_prop : IsProp (Accepted (on l s)) = Accepted-prop (on l s) in
      let count_prop : IsProp (t.count ≡ count s * t.quota) = hlevel props in
      let quota_prop : IsProp (t.quota ≡ quota l) = hlevel props in
      let tied_prop : IsProp (below ≡ div t.quota at) = hlevel props in
      let fresh_prop : IsProp (at ≡ None → (maker.made ≡ 0) × ((j : ℕ) → low j ≡ 0)) = hlevel props in
      λ k. record {
        accepted = accepted_prop x.accepted y.accepted k;
        count_is = count_prop x.count_is y.count_is k;
        quota_is = quota_prop x.quota_is y.quota_is k;
        tied = tied_prop x.tied y.tied k;
        fresh = fresh_prop x.fresh y.fresh k;
        here = At-prop at x.here y.here k;
      }

pub Sits-prop : {D : Type 0} (c : Model) (s : Stack) (below : Option ℕ) (low : ℕ → ℕ) (l : Kind) (r : Result Step Refusal) (at : Option ℕ) (maker : Maker D)
    → IsProp (Sits c s below low l r at maker)
Sits-prop c s below low l (Ok t) at maker = Stands-prop c s l t maker below low at
Sits-prop c s below low l (Err x) at maker = hlevel props
