use Rattle.std.proofs.Common.{◌≡◌, ◌-◌, ◌++◌, length, take, reverse}
use Rattle.cipher.specs.Bytes.{number}
use Rattle.cipher.proofs.derivation.write_number.Given as goal

abbrev pub invariant-loop-byte : goal.invariant-loop-byte
invariant-loop-byte l = number (length l.fn.block) l.t ≡ number (length l.fn.block - l.byte-index) l.rest ++ reverse (take l.byte-index l.block)
