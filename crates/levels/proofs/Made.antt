-- What the making of a level leaves. Assumes nothing.
use Rattle.std.proofs.Common.{◌≡◌, ℕ, Bool, is_none, None, Ok, Err, Option, Result, sym, refl, ap, arith}
use Rattle.std.proofs.lemmas.Bool.Decides.{nat_tests}
use Rattle.cipher.specs.Model.{Model}
use Rattle.rules.specs.declared.kind.Kind.{Kind}
use Rattle.keys.specs.declared.refusals.Refusal.{Refusal}
use Rattle.keys.specs.Stack.{Stack, levels}
use Rattle.keys.specs.Sources.{Facts}
use Rattle.levels.specs.declared.maker.Maker.{Maker}
use Rattle.levels.specs.declared.step.Step.{Step}
use Rattle.levels.specs.Making.{refused_by, left_by, stood, AtLimit, Planned}
use Rattle.levels.specs.Numbers.{Numbers}
use Rattle.levels.specs.LevelState.{stack_of, Sits}
use Rattle.levels.specs.LevelFacts.{number_some}

-- a level that is made over a source
pub made_sits : {D : Type 0} (c : Model) (s : Stack) (below : Option ℕ) (low : ℕ → ℕ) (l : Kind) (maker : Maker D) (r : Result Step Refusal) → maker.made ≡ 0
    → Facts s below low → Planned (refused_by l (is_none below) s) r (Numbers l s) → Sits c s below low l r None maker
made_sits c s below low l maker (Ok t) none facts h = grind (arith, nat_tests)
made_sits c s below low l maker (Err x) none facts h = refl

pub made_stack : (l : Kind) (fresh : Bool) (s : Stack) (P : Step → Type 0) (r : Result Step Refusal) → Planned (refused_by l fresh s) r P → stack_of r l s ≡ stood l fresh s
unfolding stood
made_stack l fresh s P (Ok t) h = ap (λ b. left_by b l s) (sym h.0)
made_stack l fresh s P (Err x) h = ap (λ b. left_by b l s) (sym h)

pub at_limit : (l : Kind) (fresh : Bool) (s : Stack) (r : Result Step Refusal) → Planned (refused_by l fresh s) r (Numbers l s) → levels s ≡ 256 → AtLimit s (stack_of r l s)
at_limit l fresh s (Ok t) h e = grind (arith, nat_tests, number_some)
at_limit l fresh s (Err x) h e = grind (arith, nat_tests, number_some)
