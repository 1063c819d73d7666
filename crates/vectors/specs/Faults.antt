-- Why a line is no request. Assumes nothing.
use Rattle.std.specs.Prelude.{ℕ, List, codes}
use Rattle.text.specs.declared.fault.HexFault.{HexFault}
use Rattle.text.specs.declared.fault.HexFault.TheVariants.{Digits, Memory as no_memory}
use Rattle.vectors.specs.declared.kinds.Fault.{Fault}
use Rattle.vectors.specs.declared.kinds.Fault.TheVariants.{LongLine, UnknownRequest, WordCount, UnknownCipher, Hexadecimal, KeyLength, BlockLength, Number, Range, Memory}

-- a fault of hexadecimal digits, as one of a request
abbrev pub of_hex : HexFault → Fault
of_hex Digits = Hexadecimal
of_hex no_memory = Memory

-- the line that tells a fault
abbrev pub message : Fault → List ℕ
message LongLine = codes "error: line too long"
message UnknownRequest = codes "error: unknown request"
message WordCount = codes "error: wrong number of words"
message UnknownCipher = codes "error: unknown cipher"
message Hexadecimal = codes "error: bad hexadecimal"
message KeyLength = codes "error: wrong key length"
message BlockLength = codes "error: wrong block length"
message Number = codes "error: bad number"
message Range = codes "error: number out of range"
message Memory = codes "error: no memory"
