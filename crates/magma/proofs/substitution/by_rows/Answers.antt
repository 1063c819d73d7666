use Rattle.std.proofs.Common.{◌+◌, ◌*◌, ◌/◌, ◌%◌, List, ℕ, get_or, ap, ◌∙◌, arith}
use Rattle.magma.proofs.Tables.{row_of}
use Rattle.magma.proofs.substitution.by_rows.Goals as goal

pub returns : goal.returns
returns c =
    let b = c.args.b in
    let k = 2 * c.args.i in
    let low = row_of c.args.rows.now c.requires.all k (omega (arith, c.requires.place)) c.index-rows-i.result in
    let high = row_of c.args.rows.now c.requires.all (k + 1) (omega (arith, c.requires.place)) c.index-rows-i-2.result in
    let e = c.nibble.ensures.value ∙ ap (λ (r : List ℕ). get_or r (b % 16) 0) low in
    let f = c.nibble-2.ensures.value ∙ ap (λ (r : List ℕ). get_or r (b / 16 % 16) 0) high in
    omega (arith, e, f)
