-- Bottom sources: what one made of a buffer is, and what it means by the little that it keeps.
-- Assumes nothing.
use Rattle.std.specs.Prelude.{ℕ, ◌*◌, ◌/◌, ◌%◌, Bool, false, cond, ◌&&◌, List, [], ◌∷◌, length, take, drop, ◌==◌, nat_le, nat_lt}
use Rattle.keys.specs.declared.refusals.MakingFault.TheVariants.{KeyLength}
use Rattle.keys.specs.Refusals.{of_buffer, making_refusal}
use Rattle.keys.specs.Stack.{Stack, bottom, refused}

-- refused for the length of the keys
abbrev pub keyless : Stack
keyless = refused (record { level = 0; fault = KeyLength }) (1 ∷ [])

-- a bottom that is refused where the buffer does not hold its keys
abbrev pub opened : Bool → Stack → Stack
opened fits s = cond ((making_refusal KeyLength).applies (of_buffer fits)) keyless s

-- a root: the buffer is one key of k bytes
abbrev pub rooted : ℕ → List ℕ → Stack
rooted k b = opened (length b == k) (bottom 1 (λ _. b) false)

-- n bytes are 1 to 256 keys of k bytes
abbrev pub ring_fits : ℕ → ℕ → Bool
ring_fits k n = nat_lt 0 n && (nat_le n (256 * k) && n % k == 0)

-- a ring: the buffer is keys of k bytes, one after the other
abbrev pub ringed : ℕ → List ℕ → Stack
ringed k b = opened (ring_fits k (length b)) (bottom (length b / k) (λ i. take k (drop (i * k) b)) false)

-- a bottom that keeps so many keys, or none where its making was refused
abbrev pub founded : ℕ → (ℕ → List ℕ) → Stack
founded m keys = cond (nat_lt 0 m) (bottom m keys false) keyless
