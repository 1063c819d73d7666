-- How the code makes a level's keys: an inner key begins as the key below and is replaced so many times, and
-- the key given out is made from it. Assumes nothing.
use Rattle.std.specs.Prelude.{ℕ, ◌/◌, List}
use Rattle.cipher.specs.Model.{Model}
use Rattle.cipher.specs.Derivation.{renewed, numbered_key, master_key}
use Rattle.rules.specs.declared.kind.Kind.{Kind}
use Rattle.rules.specs.declared.kind.Kind.TheVariants.{Branch, Fan, Serial, Chain, Master}
use Rattle.rules.specs.LevelKeys.{times}

-- how often the inner key has been replaced when the key of remainder r is made
abbrev pub stage : Kind → ℕ → ℕ
stage (Branch a) r = 0
stage (Fan q) r = 0
stage (Serial q) r = r
stage (Chain q) r = r
stage (Master q t) r = r / t

-- what replaces the inner key x
abbrev pub stepped : Model → Kind → List ℕ → List ℕ
stepped c (Branch a) x = x
stepped c (Fan q) x = x
stepped c (Serial q) x = numbered_key c x 1
stepped c (Chain q) x = renewed c x
stepped c (Master q t) x = renewed c x

-- the key of remainder r, from its inner key x
abbrev pub given : Model → Kind → List ℕ → ℕ → List ℕ
given c (Branch a) x r = numbered_key c x a
given c (Fan q) x r = numbered_key c x r
given c (Serial q) x r = numbered_key c x 0
given c (Chain q) x r = x
given c (Master q t) x r = master_key c x r

-- the inner key after so many replacements
abbrev pub inner_key : Model → Kind → List ℕ → ℕ → List ℕ
inner_key c l p m = times m (stepped c l) p
