use Rattle.std.proofs.lemmas.Result.{err_from_is_err_and}
use Rattle.vectors.specs.declared.kinds.Action.TheVariants.{Encipher, Decipher}
use Rattle.vectors.proofs.Reading.{last_refused}
use Rattle.vectors.proofs.request.read_fields.Goals as goal

pub returns-in_err-read_block-in-Encipher : goal.returns-in_err-read_block-in-Encipher
returns-in_err-read_block-in-Encipher c =
    let p = err_from_is_err_and c.from_residual-in_err-read_block-in-Encipher.result c.from_residual-in_err-read_block-in-Encipher.ensures.1 in
    rw (p.1, p.2, c.in-Encipher.is, c.in_ok-cipher.ensures) (last_refused Encipher _ _ _ c.args.last.now _ c.in_ok-key.ensures c.in_err-read_block-in-Encipher.ensures)

pub returns-in_err-read_block-in-Decipher : goal.returns-in_err-read_block-in-Decipher
returns-in_err-read_block-in-Decipher c =
    let p = err_from_is_err_and c.from_residual-in_err-read_block-in-Decipher.result c.from_residual-in_err-read_block-in-Decipher.ensures.1 in
    rw (p.1, p.2, c.in-Decipher.is, c.in_ok-cipher.ensures) (last_refused Decipher _ _ _ c.args.last.now _ c.in_ok-key.ensures c.in_err-read_block-in-Decipher.ensures)
