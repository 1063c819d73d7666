-- The texts of refusals. Assumes nothing.
use Rattle.std.proofs.Common.{◌≡◌, ◌++◌, codes, decimal, ap, append-nil}
use Rattle.keys.specs.declared.refusals.Refusal.{Refusal}
use Rattle.stacks.specs.declared.refusal.KeyRefusal.TheVariants.{Stack, Move}
use Rattle.keys.specs.declared.refusals.MoveFault.{MoveFault}
use Rattle.keys.specs.Refusals.{making_number}
use Rattle.keys.specs.Moving.{move_refusal}
use Rattle.stacks.specs.Keys.{refusal}
use Rattle.key_requests.specs.Keys.{refusal_text}

pub stack_text : (x : Refusal) → refusal_text (refusal (Stack x)) ≡ codes "refused " ++ (decimal 7 ++ (codes " " ++ (decimal x.level ++ (codes " " ++ decimal (making_number x.fault)))))
stack_text x = ap (λ t. codes "refused " ++ (decimal 7 ++ (codes " " ++ (decimal x.level ++ (codes " " ++ t))))) (append-nil (decimal (making_number x.fault)))

pub move_text : (f : MoveFault) → refusal_text (refusal (Move f)) ≡ codes "refused " ++ decimal (move_refusal f).number
move_text f = ap (λ t. codes "refused " ++ t) (append-nil (decimal (move_refusal f).number))
