-- The look-ups in the tables of rows and of pairs. Assumes nothing.
use Rattle.std.proofs.Common.{◌≡◌, ℕ, zero, suc, ◌<◌, List, [], map, length, get_or, sym, ap, ◌∙◌, arith}
use Rattle.std.proofs.lemmas.List.{get_or-map, length-map}
use Rattle.cipher.proofs.Every.{tabled}
use Rattle.magma.specs.declared.pairs.TheConstants.{PAIRS}
use Rattle.magma.specs.declared.rows.Row.{Row}
use Rattle.magma.specs.Magma.{Pi'}
use Rattle.magma.specs.Pairs.{pair}

-- what a table has at a byte is what its two rows make of it
pub in_table : (i b : ℕ) → i < 4 → b < 256 → get_or (get_or PAIRS i []) b 0 ≡ pair i b
in_table zero b h l = tabled (pair 0) b (get_or PAIRS 0 []) tt l
in_table (suc zero) b h l = tabled (pair 1) b (get_or PAIRS 1 []) tt l
in_table (suc (suc zero)) b h l = tabled (pair 2) b (get_or PAIRS 2 []) tt l
in_table (suc (suc (suc zero))) b h l = tabled (pair 3) b (get_or PAIRS 3 []) tt l
in_table (suc (suc (suc (suc i)))) b h l = absurd (omega arith)

-- the nibbles of a row are those of the standard
pub row_of : (rows : List Row) → map (λ r. r.nibbles) rows ≡ Pi' → (k : ℕ) → k < 8 → (r : Row) → (get_or rows k r).nibbles ≡ get_or Pi' k []
row_of rows same k h r =
    let f : Row → List ℕ = λ r. r.nibbles in
    let n : k < length rows = omega (arith, ap length same, length-map rows f) in
    sym (get_or-map f rows k r [] n) ∙ ap (λ l. get_or l k []) same
