-- The blocks that the code's ways of making a key encipher. Assumes nothing.
use Rattle.std.specs.Prelude.{ℕ, ◌+◌, List}
use Rattle.cipher.specs.Bytes.{number}
use Rattle.cipher.specs.Derivation.{constant, numbered, marked_numbers}
use Rattle.cipher.specs.declared.derivation.KeyBlocks.{KeyBlocks}
use Rattle.cipher.specs.declared.derivation.KeyBlocks.TheVariants.{Constants, Numbers, Run, MarkedRun}

-- block j, of n bytes
abbrev pub block : ℕ → KeyBlocks → ℕ → List ℕ
block n Constants j = constant n j
block n (Numbers t) j = number n (t + j)
block n (Run k J) j = numbered n J k j
block n (MarkedRun k J) j = marked_numbers n J k j
