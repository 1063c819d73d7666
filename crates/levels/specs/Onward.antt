-- Where a level goes on from on its way to a key. Assumes nothing.
use Rattle.std.specs.Prelude.{ℕ, suc, ◌/◌, ◌%◌, Bool, true, false, cond, ◌&&◌, Some, None, Option, ◌==◌, nat_lt}

-- the remainder to go on from on the way to i, where the level stands under the same key and before i
abbrev pub onward : ℕ → Option ℕ → ℕ → ℕ → Option ℕ
onward q None rem i = None
onward q (Some b) rem i = cond (b / q == i / q && nat_lt rem (i % q)) (Some rem) None

-- the first remainder whose key is made on the way to the last: only a level that renews its own keys makes others
abbrev pub first_of : Bool → Option ℕ → ℕ → ℕ
first_of false from last = last
first_of true None last = 0
first_of true (Some r) last = suc r
