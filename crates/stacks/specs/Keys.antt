-- The answer to the question for a key of a stack. Assumes nothing.
use Rattle.std.specs.Prelude.{◌≡◌, ℕ, ◌<◌, List, [], ◌∷◌, ◌++◌, drop, Ok, Err, Result}
use Rattle.cipher.specs.Model.{Model}
use Rattle.keys.specs.Refusals.{making_number, note_number}
use Rattle.keys.specs.Moving.{move_refusal}
use Rattle.keys.specs.Stack as stacks
use Rattle.keys.specs.Stack.{count, note, key}
use Rattle.stacks.specs.declared.refusal.KeyRefusal.{KeyRefusal}
use Rattle.stacks.specs.declared.refusal.KeyRefusal.TheVariants.{Stack, Move}

-- for each refusal of the key i of a stack: its number, the values that are told with it, and when it is given
pub record Refusal : Type 1 where
  pub number : ℕ
  pub values : List ℕ
  pub given : stacks.Stack → ℕ → Type 0

abbrev pub refusal : KeyRefusal → Refusal
refusal (Stack x) = record {
  number = 7;
  values = x.level ∷ making_number x.fault ∷ [];
  given = λ s i. note s ≡ Err x;
}
refusal (Move f) = record {
  number = (move_refusal f).number;
  values = [];
  given = λ s i. (note_number (note s) ≡ 0) × (move_refusal f).given s i;
}

-- the stack was made, and has a key i
abbrev pub HasKey : stacks.Stack → ℕ → Type 0
HasKey s i = (note_number (note s) ≡ 0) × (i < count s)

-- what is left in a buffer where the key i of a stack is asked for: the key before the bytes that stood behind it, or
-- all that stood there
abbrev pub KeyGiven : Model → stacks.Stack → ℕ → List ℕ → List ℕ → Result (Unit {0}) KeyRefusal → Type 0
KeyGiven c s i before after (Ok u) = HasKey s i × (after ≡ key c s i ++ drop c.key before)
KeyGiven c s i before after (Err f) = (refusal f).given s i × (after ≡ before)
