use Rattle.std.proofs.Common.{arith, ltb-false, ltb-true}
use Rattle.vectors.proofs.Fields.{three}
use Rattle.vectors.proofs.request.read.Goals as goal

pub returns : goal.returns
returns c = rw (three c.args.fields.now (omega (arith, ltb-true, ltb-false)), c.in_ok-action.ensures) c.read_fields.ensures
