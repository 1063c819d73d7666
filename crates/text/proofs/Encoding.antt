-- Digits in pairs, and bytes, as crate hex reads and writes them. Assumes nothing.
use Rattle.std.proofs.Common.{◌≡◌, ℕ, zero, suc, ◌+◌, ◌*◌, ◌/◌, ◌%◌, ◌<◌, ◌==◌, Bool, true, false, List, [], ◌∷◌, length, slice_index, ◌&&◌, Some, None, Ok, Err, Option, Result, is_some, ◌⊎◌, inl, inr, sym, refl, ap, ◌∙◌, arith}
use Rattle.std.proofs.lemmas.Bool.Decides.{Decides-eqb, Decides-below_and, nat_tests}
use Rattle.std.proofs.lemmas.Bool.{cases_eq}
use Rattle.std.specs.Char.{is_ascii_hexdigit}
use Rattle.hex.specs.declared.error.FromHexError.{FromHexError}
use Rattle.hex.specs.declared.error.FromHexError.TheVariants.{InvalidHexCharacter, OddLength, InvalidStringLength, OutOfMemory}
use Rattle.hex.specs.Hex.{hex_digit_value, is_hex_digit, digit_or_error, value_at, pair_value, decode_pairs, decode_of, encode_with, encode_upper, upper_digits, ◌>>=◌}
use Rattle.hex.proofs.HexLemmas.{decode_of-even, decode_of-ok, decode_of-err}
use Rattle.text.specs.Hex.{Digit, Spells, Decoded, capital, encoded}
use Rattle.text.specs.Faults.{of_error}

-- the library's value of a digit is ours
digit_read : (c v : ℕ) → hex_digit_value c ≡ Some v → Digit c v
digit_read c v h = grind arith

digit_reads : (c v : ℕ) → Digit c v → hex_digit_value c ≡ Some v
digit_reads c v h = grind arith

-- what an `Ok` after two steps shows of each
bind_ok : {A B : Type 0} (r : Result A FromHexError) (f : A → Result B FromHexError) (y : B)
    → (r >>= f) ≡ Ok y → (x : A) × (r ≡ Ok x) × (f x ≡ Ok y)
bind_ok (Ok x) f y h = (x, refl, h)
bind_ok (Err e) f y h = cc h

read_ok : (c i : ℕ) (o : Option ℕ) (v : ℕ) → digit_or_error c i o ≡ Ok v → o ≡ Some v
read_ok c i (Some w) v h = cc h
read_ok c i None v h = cc h

one_byte : (b c : ℕ) (bytes all : List ℕ) → ◌≡◌ {A = Result ℕ FromHexError} (Ok b) (Ok c) → ◌≡◌ {A = Result (List ℕ) FromHexError} (Ok (c ∷ bytes)) (Ok all) → b ∷ bytes ≡ all
one_byte b c bytes all e f = cc

-- two digits more in front
more_high : (a b x : ℕ) (text bytes : List ℕ) → Digit a (x / 16) → ((k : ℕ) → k < length bytes → Digit (slice_index text (2 * k)) (slice_index bytes k / 16))
    → (k : ℕ) → k < suc (length bytes) → Digit (slice_index (a ∷ b ∷ text) (2 * k)) (slice_index (x ∷ bytes) k / 16)
more_high a b x text bytes d more zero lt = d
more_high a b x text bytes d more (suc k) lt =
    let twice : 2 * suc k ≡ suc (suc (2 * k)) = omega arith in
    rw twice (more k (omega arith))

more_low : (a b x : ℕ) (text bytes : List ℕ) → Digit b (x % 16) → ((k : ℕ) → k < length bytes → Digit (slice_index text (2 * k + 1)) (slice_index bytes k % 16))
    → (k : ℕ) → k < suc (length bytes) → Digit (slice_index (a ∷ b ∷ text) (2 * k + 1)) (slice_index (x ∷ bytes) k % 16)
more_low a b x text bytes d more zero lt = d
more_low a b x text bytes d more (suc k) lt =
    let twice : 2 * suc k + 1 ≡ suc (suc (2 * k + 1)) = omega arith in
    rw twice (more k (omega arith))

small : (c v : ℕ) → Digit c v → v < 16
small c v d = grind arith

spells_more : (a b h l : ℕ) (text bytes : List ℕ) → Digit a h → Digit b l → Spells text bytes → Spells (a ∷ b ∷ text) ((h * 16 + l) ∷ bytes)
spells_more a b h l text bytes hi lo s =
    let less = small b l lo in
    let up : (h * 16 + l) / 16 ≡ h = omega arith in
    let down : (h * 16 + l) % 16 ≡ l = omega arith in
    record {
      pairs = omega (arith, s.pairs);
      high = more_high a b (h * 16 + l) text bytes (rw up hi) s.high;
      low = more_low a b (h * 16 + l) text bytes (rw down lo) s.low;
    }

-- what decodes is spelled
spells_pairs : (i : ℕ) (text bytes : List ℕ) → decode_pairs i text ≡ Ok bytes → Spells text bytes
unfolding decode_pairs
spells_pairs i [] bytes e =
    let is : [] ≡ bytes = cc e in
    rw (← is) (record { pairs = refl; high = λ k lt. absurd (omega arith); low = λ k lt. absurd (omega arith) })
spells_pairs i (a ∷ []) bytes e = cc e
spells_pairs i (a ∷ b ∷ text) bytes e =
    let p = bind_ok (pair_value a b i) _ bytes e in
    let h = bind_ok (value_at a i) _ p.0 p.1 in
    let l = bind_ok (value_at b (i + 1)) _ p.0 h.2 in
    let more = bind_ok (decode_pairs (i + 2) text) _ bytes p.2 in
    let hi = digit_read a h.0 (read_ok a i _ h.0 h.1) in
    let lo = digit_read b l.0 (read_ok b (i + 1) _ l.0 l.1) in
    rw (← one_byte (h.0 * 16 + l.0) p.0 more.0 bytes l.2 more.2)
    (spells_more a b h.0 l.0 text more.0 hi lo (spells_pairs (i + 2) text more.0 more.1))

pub decoded : (text bytes : List ℕ) → decode_of text ≡ Ok bytes → Spells text bytes
decoded text bytes e = spells_pairs 0 text bytes (sym (decode_of-even text (decode_of-ok text bytes e).0) ∙ e)

-- what is spelled has an even number of digits
pub odd_spells_none : (text : List ℕ) → (length text % 2 ≡ 0 → ⊥) → (bytes : List ℕ) → Spells text bytes → ⊥
odd_spells_none text odd bytes s = let pairs = s.pairs in odd (omega (arith, pairs))

-- and no other character
other_spells_none : (text : List ℕ) (i : ℕ) → i < length text → is_hex_digit (slice_index text i) ≡ false → (bytes : List ℕ) → Spells text bytes → ⊥
other_spells_none text i lt none_there bytes s =
    let none : (v : ℕ) → Digit (slice_index text i) v → ⊥ = λ v d. cc (ap is_some (digit_reads _ v d), none_there) in
    elim (cases_eq (i % 2) 0) [
      | inl even ↦
          let at : 2 * (i / 2) ≡ i = omega arith in
          let high = s.high (i / 2) (omega (arith, lt, s.pairs)) in
          none _ (rw at at high)
      | inr other ↦
          let at : 2 * (i / 2) + 1 ≡ i = omega arith in
          let low = s.low (i / 2) (omega (arith, lt, s.pairs)) in
          none _ (rw at at low)
    ]

no_digit : (c : ℕ) → is_ascii_hexdigit c ≡ false → is_hex_digit c ≡ false
no_digit c h = grind (arith, nat_tests)

pub no_digit_spells_none : (text : List ℕ) (i : ℕ) → i < length text → is_ascii_hexdigit (slice_index text i) ≡ false → (bytes : List ℕ) → Spells text bytes → ⊥
no_digit_spells_none text i lt other = other_spells_none text i lt (no_digit (slice_index text i) other)

-- what does not decode is not spelled
undecoded : (text : List ℕ) (e : FromHexError) → decode_of text ≡ Err e → (bytes : List ℕ) → Spells text bytes → ⊥
undecoded text e h bytes s =
    elim (decode_of-err text e h) [
      | inl odd ↦ omega (arith, odd.0, s.pairs)
      | inr bad ↦ other_spells_none text bad.0 bad.2 bad.3 bytes s
    ]

pub refused : (text : List ℕ) (e : FromHexError) → (e ≡ OutOfMemory) ⊎ (decode_of text ≡ Err e) → Decoded text (Err (of_error e))
refused text OutOfMemory h = tt
refused text (InvalidHexCharacter c i) (inl m) = cc m
refused text (InvalidHexCharacter c i) (inr h) = undecoded text _ h
refused text OddLength (inl m) = cc m
refused text OddLength (inr h) = undecoded text _ h
refused text InvalidStringLength (inl m) = cc m
refused text InvalidStringLength (inr h) = undecoded text _ h

-- the library's table has our capitals
same_below : ℕ → Bool
same_below zero = true
same_below (suc n) = (slice_index upper_digits n == capital n) && same_below n

capital_is : (v : ℕ) → v < 16 → slice_index upper_digits v ≡ capital v
unfolding same_below
capital_is = (Decides-below_and _ _ same_below (λ n. Decides-eqb _ _) refl (λ _. refl) 16).0 refl

pub encoded_upper : (bytes : List ℕ) → ((k : ℕ) → slice_index bytes k < 256) → encode_upper bytes ≡ encoded bytes
unfolding encode_with
encoded_upper [] fits = refl
encoded_upper (b ∷ bytes) fits =
    let at = fits 0 in
    let more = encoded_upper bytes (λ k. fits (suc k)) in
    rw (capital_is (b / 16) (omega arith), capital_is (b % 16) (omega arith)) (ap (λ t. capital (b / 16) ∷ capital (b % 16) ∷ t) more)
