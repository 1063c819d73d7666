-- Rules of bytes, each proved by a test that antt computes. Assumes nothing.
use Rattle.std.specs.Prelude.{◌≡◌, ℕ, zero, suc, ◌<◌, T, nat_eq, refl}
use Rattle.std.proofs.Common.{eqb→eq}
use Rattle.std.specs.List.{range_with_len}
use Rattle.cipher.specs.Tables.{every}
use Rattle.cipher.proofs.Every.{at}

-- two functions that agree at each byte
pub same_bytes : (f g : ℕ → ℕ) → T (every (λ i x. nat_eq (f i) (g i)) 0 (range_with_len 0 256)) → (a : ℕ) → a < 256 → f a ≡ g a
same_bytes f g t a h = eqb→eq (f a) (g a) (at (λ i x. nat_eq (f i) (g i)) (range_with_len 0 256) t a h)

-- f at a number that is computed before f is
abbrev pub at_once : (ℕ → ℕ) → ℕ → ℕ
at_once f zero = f zero
at_once f (suc n) = f (suc n)

pub at_once_is : (f : ℕ → ℕ) (n : ℕ) → at_once f n ≡ f n
at_once_is f zero = refl
at_once_is f (suc n) = refl
