-- Why a text gives no bytes. Assumes nothing.
use Rattle.hex.specs.declared.error.FromHexError.{FromHexError}
use Rattle.hex.specs.declared.error.FromHexError.TheVariants.{InvalidHexCharacter, OddLength, InvalidStringLength, OutOfMemory}
use Rattle.text.specs.declared.fault.HexFault.{HexFault}
use Rattle.text.specs.declared.fault.HexFault.TheVariants.{Digits, Memory}

-- the library's error, as a fault: memory alone is none of the text's
abbrev pub of_error : FromHexError → HexFault
of_error (InvalidHexCharacter c index) = Digits
of_error OddLength = Digits
of_error InvalidStringLength = Digits
of_error OutOfMemory = Memory
