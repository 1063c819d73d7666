use Rattle.std.proofs.Common.{rules, ◌∙◌}
use Rattle.std.proofs.lemmas.Iterator.{YieldsList-from_slice}
use Rattle.std.proofs.lemmas.Iterator.Consumers.{fold_from_yields_List}
use Rattle.magma.specs.Magma.{G}
use Rattle.magma.proofs.Feistel.{folded}
use Rattle.magma.proofs.rounds.forward.Goals as goal

pub returns : goal.returns
returns c =
    fold_from_yields_List _ (λ a k. G k a) c.args.a _ c.fold.ensures.ran (YieldsList-from_slice c.args.keys.now cc) (λ a x b q h. search rules)
    ∙ folded c.args.keys.now c.args.a
