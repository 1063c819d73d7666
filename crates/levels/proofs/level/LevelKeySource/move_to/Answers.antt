use Rattle.std.proofs.Common.{◌≡◌, replicate, Some, refl, arith, rules}
use Rattle.levels.proofs.Standing.{stands_by, made_at, stands_on, moves, moves_by}
use Rattle.levels.proofs.level.LevelKeySource.move_to.Goals as goal

pub invariant_of-self-3 : goal.invariant_of-self-3
invariant_of-self-3 g c =
    let self = c.args.self.now in
    let low = c.in_ok-move_to.ensures in
    let end = c.make_through.new.self in
    let ready = c.prepare-first.ensures in
    let made = c.make_through.ensures in
    let reached = c.in_ok-step.ensures in
    let stands = stands_by self.step c.in_ok-step.step reached.0 self.sits in
    let at = made_at stands c.args.number reached.1 c.onward-onward.result c.prepare-first.new.self.inner end c.new.result c.move_to.new.key
    g.met.C.BlockCipher.laws low.cases c.move_to.array_long c.new.ensures c.onward-onward.ensures.value ready.first ready.inner made.inner made.key in
    record { sits = stands_on stands c.args.number reached.1 _ end refl refl refl low.stack low.cases.stands at }

pub returns-clause-cases : goal.returns-clause-cases
returns-clause-cases g c =
    let self = c.args.self.now in
    let low = c.in_ok-move_to.ensures in
    let end = c.make_through.new.self in
    let ready = c.prepare-first.ensures in
    let made = c.make_through.ensures in
    let reached = c.in_ok-step.ensures in
    let on = c.onward-onward.ensures in
    let o = c.onward-onward.result in
    let parent = c.move_to.new.key in
    let t = c.in_ok-step.step in
    let stands = stands_by self.step t reached.0 self.sits in
    let at = made_at stands c.args.number reached.1 o c.prepare-first.new.self.inner end c.new.result parent
    g.met.C.BlockCipher.laws low.cases c.move_to.array_long c.new.ensures on.value ready.first ready.inner made.inner made.key in
    let other : self.position ≡ Some c.args.number → ⊥ = search rules in
    moves_by self.step t self.maker.made (g.S.KeySource.ledgers self.below) reached.0
    (moves stands c.args.number reached.1 o end parent (replicate 32 0) c.args.key.now c.write-2.new.buffer
    t.some other low.stack low.cases on.value on.before ready.first (omega (arith, made.made, ready.made)) at c.write-2.ensures)
