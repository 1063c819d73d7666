-- The keys that a level makes of one key below (RFC 8645). Assumes nothing.
use Rattle.std.specs.Prelude.{ℕ, zero, suc, ◌/◌, List}
use Rattle.cipher.specs.Model.{Model}
use Rattle.cipher.specs.Derivation.{parts, made, constant, numbered, marked_numbers}
use Rattle.rules.specs.declared.kind.Kind.{Kind}
use Rattle.rules.specs.declared.kind.Kind.TheVariants.{Branch, Fan, Serial, Chain, Master}

-- f so many times over
abbrev pub times : {K : Type 0} → ℕ → (K → K) → K → K
times zero f x = x
times (suc m) f x = f (times m f x)

-- The key of remainder r out of the key below, p, for blocks of n bytes of which J make a key. What a key
-- is stays open, bytes or only a name: seal x f is the key that the blocks f 0 to f (J - 1) make under x.
abbrev pub key_by : {K : Type 0} → (K → (ℕ → List ℕ) → K) → ℕ → ℕ → Kind → K → ℕ → K
key_by seal n J (Branch a) p r = seal p (numbered n J a)
key_by seal n J (Fan q) p r = seal p (numbered n J r)
key_by seal n J (Serial q) p r = seal (times r (λ s. seal s (numbered n J 1)) p) (numbered n J 0)
key_by seal n J (Chain q) p r = times r (λ k. seal k (constant n)) p
key_by seal n J (Master q t) p r = seal (times (r / t) (λ m. seal m (constant n)) p) (marked_numbers n J r)

-- the same with a cipher: a key is bytes
abbrev pub level_key : Model → Kind → List ℕ → ℕ → List ℕ
level_key c = key_by (made c) c.block (parts c)
