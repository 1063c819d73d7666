-- The ciphers that a request can name. Assumes nothing.
use Rattle.cipher.specs.Model.{Model}
use Rattle.aes.specs.Aes.{the_model as aes256}
use Rattle.magma.specs.Magma.{the_model as magma}
use Rattle.vectors.specs.declared.kinds.CipherName.{CipherName}
use Rattle.vectors.specs.declared.kinds.CipherName.TheVariants.{Aes256, Magma}

abbrev pub model_of : CipherName → Model
model_of Aes256 = aes256
model_of Magma = magma
