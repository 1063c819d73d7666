use Rattle.std.proofs.Common.{◌≡◌, ◌-◌, ◌/◌, ◌++◌, length, take, drop, replicate, ap, ◌∙◌, append-nil, arith}
use Rattle.std.proofs.lemmas.List.{length-drop, length-take, take-replicate, drop_all}
use Rattle.cipher.specs.Bytes.{number}
use Rattle.cipher.specs.Derivation.{marked}
use Rattle.cipher.proofs.derivation.write_marked.Goals as goal

pub returns : goal.returns
unfolding marked
returns c =
    let n = length c.args.block.now in
    let b = c.fill.new.self in
    let part = c.write_number.new.block in
    let full : b ≡ replicate n 255 = c.fill.ensures.after (λ y e. e) in
    let long : length b ≡ n = c.fill.ensures.len in
    let wide : length (take (n - n / 2) (drop (n / 2) b)) ≡ n - n / 2 = simp (length-take, length-drop) (omega arith) in
    let front : take (n / 2) b ≡ replicate (n / 2) 255 = ap (take (n / 2)) full ∙ take-replicate (n / 2) n 255 (omega arith) in
    let back : drop (n - n / 2) (drop (n / 2) b) ≡ _ = drop_all (n - n / 2) (drop (n / 2) b) (simp length-drop (omega arith)) in
    let is : part ≡ number (n - n / 2) c.args.t = c.write_number.ensures ∙ ap (λ k. number k c.args.t) wide in
    (λ i. front i ++ (is i ++ back i)) ∙ ap (λ x. replicate (n / 2) 255 ++ x) (append-nil _)
