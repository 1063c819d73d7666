use Rattle.std.proofs.Common.{◌≡◌, List, ℕ, [], ◌++◌, length, get_or, sym, refl, ap, ◌∙◌, arith}
use Rattle.aes.specs.Aes.{add_round_key}
use Rattle.aes.specs.Words.{bytes_of}
use Rattle.aes.proofs.States.{by_columns}
use Rattle.aes.proofs.Turns.{bytes_xor}
use Rattle.aes.proofs.columns.add_round_key.Goals as goal

pub returns : goal.returns
unfolding bytes_of add_round_key
returns c =
    let s : List ℕ = c.args.s in
    let k = c.args.k.now in
    let long : length s ≡ 4 = omega arith in
    (λ j. bytes_xor (get_or s 0 0) (get_or k 0 0) j ++ (bytes_xor (get_or s 1 0) (get_or k 1 0) j
    ++ (bytes_xor (get_or s 2 0) (get_or k 2 0) j ++ (bytes_xor (get_or s 3 0) (get_or k 3 0) j ++ []))))
    ∙ sym (ap (λ (b : List ℕ). add_round_key b k) (by_columns s long refl refl refl refl))
