-- What the making of a level leaves. Assumes nothing.
use Rattle.std.specs.Prelude.{◌≡◌, ℕ, min, Bool, cond, List, ◌∷◌, Some, None, Ok, Err, Option, Result, nat_lt}
use Rattle.rules.specs.declared.kind.Kind.{Kind}
use Rattle.keys.specs.declared.refusals.MakingFault.{MakingFault}
use Rattle.keys.specs.declared.refusals.MakingFault.TheVariants.{OutOfRange, NotFresh, KeysRenewed, TooLarge}
use Rattle.keys.specs.declared.refusals.Refusal.{Refusal}
use Rattle.keys.specs.Refusals.{Attempt, on_source, making_refusal, note_level, note_number}
use Rattle.keys.specs.Stack.{Stack, on, refused, count, quotas, levels, renews_keys, note}

-- a refusal where it applies to what is to be made, and otherwise what follows
abbrev pub when : Attempt → MakingFault → Option MakingFault → Option MakingFault
when a f next = cond ((making_refusal f).applies a) (Some f) next

-- the first refusal that applies to a level on a source that is fresh or not, renews its own keys or not, and has so
-- many levels and keys
abbrev pub barred_by : Kind → Bool → Bool → ℕ → ℕ → Option MakingFault
barred_by l fresh renewed n m =
    let a = on_source l fresh renewed n m in
    when a OutOfRange (when a NotFresh (when a KeysRenewed (when a TooLarge None)))

-- the same of a level on s that is fresh or not
abbrev pub barred : Kind → Bool → Stack → Option MakingFault
barred l fresh s = barred_by l fresh (renews_keys s) (levels s) (count s)

-- why a level is not made on a source of n levels with this note: a refusal of the source is passed on whole, and
-- otherwise the first that applies is told with the level that was to be made, or 255 where there is no such level
abbrev pub passed_on : Result ℕ Refusal → Option MakingFault → ℕ → Option Refusal
passed_on (Err x) b n = Some x
passed_on (Ok own) (Some f) n = Some (record { level = min n 255; fault = f })
passed_on (Ok own) None n = None

-- the same of a level on s that is fresh or not
abbrev pub refused_by : Kind → Bool → Stack → Option Refusal
refused_by l fresh s = passed_on (note s) (barred l fresh s) (levels s)

-- the quotas that a refused level leaves: its own is 1, and a level on 256 adds none
abbrev pub idle_quotas : Stack → List ℕ
idle_quotas s = cond (nat_lt (levels s) 256) (1 ∷ quotas s) (quotas s)

-- what is left on s: the level, or its refusal
abbrev pub left_by : Option Refusal → Kind → Stack → Stack
left_by None l s = on l s
left_by (Some x) l s = refused x (idle_quotas s)

-- what the making of a level on a source leaves
unfoldable pub stood : Kind → Bool → Stack → Stack
stood l fresh s = left_by (refused_by l fresh s) l s

-- a level on 256 levels adds none and has no keys; where the source has no note of a refusal it notes level 255
pub record AtLimit (s made : Stack) : Type 0 where
  pub levels_same : levels made ≡ levels s
  pub no_keys : count made ≡ 0
  pub noted_255 : note_number (note s) ≡ 0 → note_level (note made) ≡ 255

-- what a plan comes to: what is planned, or the refusal that applies
abbrev pub Planned : {X F : Type 0} → Option F → Result X F → (X → Type 0) → Type 0
Planned b (Ok x) P = (b ≡ None) × P x
Planned b (Err f) P = b ≡ Some f
