use Rattle.levels.proofs.Made.{made_sits}
use Rattle.levels.proofs.level.Level.stand.Goals as goal

pub invariant_of-result : goal.invariant_of-result
invariant_of-result g c =
    record { sits = made_sits _ _ _ _ _ _ _ c.new.ensures (g.met.S.KeySource.facts c.args.below) c.settle-step.ensures.cases }
