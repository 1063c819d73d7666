-- The refusals of a making: for each its number, and when it applies. Assumes nothing.
use Rattle.std.specs.Prelude.{ℕ, ◌*◌, Bool, false, not, ◌&&◌, nat_le, nat_lt, Ok, Err, Result}
use Rattle.std.specs.Int.NonZero.{non_zero_u32_get}
use Rattle.rules.specs.declared.kind.Kind.{Kind}
use Rattle.rules.specs.Levels.{quota, renews, ranged}
use Rattle.keys.specs.declared.refusals.MakingFault.{MakingFault}
use Rattle.keys.specs.declared.refusals.MakingFault.TheVariants.{KeyLength, OutOfRange, NotFresh, KeysRenewed, TooLarge, Other}
use Rattle.keys.specs.declared.refusals.Refusal.{Refusal}

-- what is to be made
pub data Attempt : Type 0 where
  -- a bottom out of a buffer that holds the keys that it should, or not
  of_buffer : (fits : Bool) → Attempt
  -- a level on a source that is fresh or not, renews its own keys or not, and has so many levels and keys
  on_source : Kind → (fresh renewed : Bool) → (levels count : ℕ) → Attempt

abbrev pub wrong_keys : Attempt → Bool
wrong_keys (of_buffer fits) = not fits
wrong_keys (on_source l fresh renewed n m) = false

abbrev pub out_of_range : Attempt → Bool
out_of_range (of_buffer fits) = false
out_of_range (on_source l fresh renewed n m) = not (ranged l)

abbrev pub not_fresh : Attempt → Bool
not_fresh (of_buffer fits) = false
not_fresh (on_source l fresh renewed n m) = not fresh

abbrev pub keys_renewed : Attempt → Bool
keys_renewed (of_buffer fits) = false
keys_renewed (on_source l fresh renewed n m) = renews l && renewed

-- more than 256 levels, or more than 2^24 keys
abbrev pub is_too_large : Attempt → Bool
is_too_large (of_buffer fits) = false
is_too_large (on_source l fresh renewed n m) = not (nat_lt n 256 && nat_le (m * quota l) 16777216)

-- a source of another make is none of these attempts
abbrev pub of_another_make : Attempt → Bool
of_another_make a = false

pub record MakingRefusal : Type 0 where
  pub number : ℕ
  pub applies : Attempt → Bool

abbrev pub making_refusal : MakingFault → MakingRefusal
making_refusal KeyLength = record { number = 1; applies = wrong_keys }
making_refusal OutOfRange = record { number = 2; applies = out_of_range }
making_refusal NotFresh = record { number = 3; applies = not_fresh }
making_refusal KeysRenewed = record { number = 4; applies = keys_renewed }
making_refusal TooLarge = record { number = 5; applies = is_too_large }
making_refusal (Other n) = record { number = non_zero_u32_get n; applies = of_another_make }

abbrev pub making_number : MakingFault → ℕ
making_number f = (making_refusal f).number

-- a note is the level of a source that was made, or the refusal: its level
abbrev pub note_level : Result ℕ Refusal → ℕ
note_level (Ok l) = l
note_level (Err r) = r.level

-- the number of a note: 0 for a source that was made
abbrev pub note_number : Result ℕ Refusal → ℕ
note_number (Ok l) = 0
note_number (Err r) = making_number r.fault
