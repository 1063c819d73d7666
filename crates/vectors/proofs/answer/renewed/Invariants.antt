use Rattle.std.proofs.Common.{◌≡◌}
use Rattle.cipher.specs.Derivation.{renewed as renewed_of}
use Rattle.vectors.specs.Answers.{repeated}
use Rattle.vectors.proofs.answer.renewed.Given as goal

abbrev pub invariant-loop : goal.invariant-loop
invariant-loop g l = l.last ≡ repeated l.counter (renewed_of g.C.BlockCipher.model) l.fn.key
