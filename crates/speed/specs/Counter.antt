-- What the benchmark computes. Assumes nothing.
use Rattle.std.specs.Prelude.{List, ◌++◌, ℕ, zero, suc, replicate, take, drop}
use Rattle.std.specs.Int.Bits.{bit_xor}
use Rattle.cipher.specs.Bytes.{word, word_bytes}
use Rattle.cipher.specs.Model.{Model}

-- the number i, in 16 bytes
abbrev pub counter : ℕ → List ℕ
counter i = replicate 12 0 ++ word_bytes i

-- a buffer of which the block is enciphered
abbrev pub enciphered : Model → List ℕ → List ℕ → List ℕ
enciphered c key b = c.enc key (take c.block b) ++ drop c.block b

-- the sum of the words of 16 bytes
unfoldable pub folded : List ℕ → ℕ
folded b = bit_xor (bit_xor (word b 0) (word b 4)) (bit_xor (word b 8) (word b 12))

-- the sum of the numbers below n, enciphered
unfoldable pub checksum : Model → List ℕ → ℕ → ℕ
checksum c key zero = 0
checksum c key (suc n) = bit_xor (checksum c key n) (folded (enciphered c key (counter n)))
