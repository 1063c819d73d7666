-- The five kinds of level. A level stands on a source of keys, and makes some keys of each key below. Assumes nothing.
use Rattle.std.specs.Prelude.{ℕ, Bool, true, false, ◌&&◌, nat_le}
use Rattle.rules.specs.declared.kind.Kind.{Kind}
use Rattle.rules.specs.declared.kind.Kind.TheVariants.{Branch, Fan, Serial, Chain, Master}

-- how many keys it makes of one key below
abbrev pub quota : Kind → ℕ
quota (Branch a) = 1
quota (Fan q) = q
quota (Serial q) = q
quota (Chain q) = q
quota (Master q t) = q

-- whether it enciphers the renewal constants under the keys below
abbrev pub renews : Kind → Bool
renews (Branch a) = false
renews (Fan q) = false
renews (Serial q) = false
renews (Chain q) = true
renews (Master q t) = true

-- whether it enciphers the renewal constants under the keys that it gives out
abbrev pub renews_own : Kind → Bool
renews_own (Branch a) = false
renews_own (Fan q) = false
renews_own (Serial q) = false
renews_own (Chain q) = true
renews_own (Master q t) = false

-- the highest number of a branch
abbrev pub highest_branch : ℕ
highest_branch = 63

-- 1 to 4,096
abbrev pub in_range : ℕ → Bool
in_range x = nat_le 1 x && nat_le x 4096

-- its numbers are in range
abbrev pub ranged : Kind → Bool
ranged (Branch a) = nat_le a highest_branch
ranged (Fan q) = in_range q
ranged (Serial q) = in_range q
ranged (Chain q) = in_range q
ranged (Master q t) = in_range q && in_range t
