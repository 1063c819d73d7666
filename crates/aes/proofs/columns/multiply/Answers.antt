use Rattle.std.proofs.Common.{◌≡◌, ℕ, ◌<◌, get_or, ap, ◌∙◌, arith}
use Rattle.std.proofs.lemmas.List.{get_or-map}
use Rattle.cipher.proofs.Words.{small_at}
use Rattle.aes.specs.Words.{entry}
use Rattle.aes.proofs.Lookups.{looked_up}
use Rattle.aes.proofs.columns.multiply.Goals as goal

pub returns : goal.returns
returns c = λ p q r s column b e.
    let f : ℕ → ℕ = entry p q r s in
    let at : (i : ℕ) → i < 4 → get_or c.args.words i 0 ≡ f (get_or column i 0) =
    λ i h. ap (λ l. get_or l i 0) e ∙ get_or-map f column i 0 0 (omega (arith, b.long)) in
    let small = small_at column b.small in
    looked_up p q r s (get_or column 0 0) (get_or column 1 0) (get_or column 2 0) (get_or column 3 0)
    (small 0) (small 1) (small 2) (small 3)
    (at 0 (omega arith)) (at 1 (omega arith)) (at 2 (omega arith)) (at 3 (omega arith))
    c.rotate_right.ensures c.rotate_right-2.ensures c.rotate_right-3.ensures
