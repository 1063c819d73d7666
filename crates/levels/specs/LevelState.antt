-- What ties a level to the source below it. Assumes nothing.
use Rattle.std.specs.Prelude.{◌≡◌, ℕ, ◌*◌, ◌/◌, ◌%◌, ◌<◌, cond, IfSome, None, Ok, Err, Option, Result, ◌==◌}
use Rattle.cipher.specs.Model.{Model}
use Rattle.rules.specs.declared.kind.Kind.{Kind}
use Rattle.rules.specs.Levels.{quota}
use Rattle.rules.specs.LevelKeys.{level_key}
use Rattle.rules.specs.InnerKeys.{stage}
use Rattle.keys.specs.declared.refusals.Refusal.{Refusal}
use Rattle.keys.specs.Stack.{Stack, on, refused, count, key, Accepted}
use Rattle.keys.specs.Moving.{div}
use Rattle.levels.specs.declared.maker.Maker.{Maker}
use Rattle.levels.specs.declared.step.Step.{Step}
use Rattle.levels.specs.Advanced.{IsInner}
use Rattle.levels.specs.Making.{idle_quotas}

-- the stack of a level on s, which has its numbers or was refused
abbrev pub stack_of : Result Step Refusal → Kind → Stack → Stack
stack_of (Ok t) l s = on l s
stack_of (Err x) l s = refused x (idle_quotas s)

-- the ledgers of a level, its own number n, that has made so many: a refused one tells 0 for each
abbrev pub ledgers_of : Result Step Refusal → ℕ → ℕ → (ℕ → ℕ) → ℕ → ℕ
ledgers_of (Ok t) n made low j = cond (j == n) made (low j)
ledgers_of (Err x) n made low j = 0

-- a level stands at i: its inner key and its current key are those of i
pub record Here {D : Type 0} (c : Model) (s : Stack) (l : Kind) (t : Step) (maker : Maker D) (i : ℕ) : Type 0 where
  pub within : i < t.count
  pub remainder_is : t.remainder ≡ i % t.quota
  pub stage_is : maker.inner.stage ≡ stage l (i % t.quota)
  pub inner_is : IsInner c l (key c s (i / t.quota)) maker.inner
  pub current_is : maker.current ≡ level_key c l (key c s (i / t.quota)) (i % t.quota)

-- an accepted level on s, which stands at `below` and has the ledgers `low`
pub record Stands {D : Type 0} (c : Model) (s : Stack) (below : Option ℕ) (low : ℕ → ℕ) (l : Kind) (t : Step) (at : Option ℕ) (maker : Maker D) : Type 0 where
  pub accepted : Accepted (on l s)
  pub count_is : t.count ≡ count s * t.quota
  pub quota_is : t.quota ≡ quota l
  pub tied : below ≡ div t.quota at
  pub fresh : at ≡ None → (maker.made ≡ 0) × ((j : ℕ) → low j ≡ 0)
  pub here : IfSome at (Here c s l t maker)

-- a level on s: it was accepted, or it stands nowhere
abbrev pub Sits : {D : Type 0} → Model → Stack → Option ℕ → (ℕ → ℕ) → Kind → Result Step Refusal → Option ℕ → Maker D → Type 0
Sits c s below low l (Ok t) at maker = Stands c s below low l t at maker
Sits c s below low l (Err x) at maker = at ≡ None
