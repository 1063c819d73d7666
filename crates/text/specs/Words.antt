-- A line and its words. Assumes nothing.
use Rattle.std.specs.Prelude.{◌≡◌, ℕ, List, [], ◌≢◌}
use Rattle.std.specs.List.{AllByRecursion, join_with_byte}

-- a text without a blank
abbrev pub Word : List ℕ → Type 0
Word = AllByRecursion (λ c. c ≢ 32)

-- texts with one blank between
abbrev pub spaced : List (List ℕ) → List ℕ
spaced = join_with_byte 32

-- the words of a line: at least one, though it may be empty
pub record Words (line : List ℕ) (ws : List (List ℕ)) : Type 0 where
  pub whole : line ≡ spaced ws
  pub some : ws ≡ [] → ⊥
  pub words : AllByRecursion Word ws

-- a line has no other words
pub record TheWords (line : List ℕ) (ws : List (List ℕ)) : Type 0 where
  pub are : Words line ws
  pub only : (vs : List (List ℕ)) → Words line vs → vs ≡ ws
