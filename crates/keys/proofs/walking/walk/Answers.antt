use Rattle.std.proofs.Common.{◌∙◌, arith}
use Rattle.cipher.proofs.Sizes.{key_within}
use Rattle.keys.specs.Stack.{key}
use Rattle.keys.proofs.Walks.{walked_more, walk_ends, behind}
use Rattle.keys.proofs.walking.walk.Goals as goal

pub loop-number-preserved : goal.loop-number-preserved
loop-number-preserved g c =
    let C = g.C.BlockCipher.model in
    let v = c.loop-number.invariant in
    let low = c.in_ok-move_to.ensures in
    let facts = c.count.ensures in
    let k = key_within C g.met.C.BlockCipher.laws in (
      low.stack ∙ v.0,
      c.move_to.array_long,
      behind C.key (key C (g.S.KeySource.stack c.loop-number.source) c.loop-number.number) c.loop-number.key c.move_to.new.key low.cases.key_is (omega (arith, c.move_to.array_long, v.1)) (omega (arith, v.1)) ∙ v.2,
      λ p. walked_more (omega (arith, facts.few, facts.value)) ((g.met.S.KeySource.facts c.args.source.now).accepted (omega (arith, facts.value))) v.0 c.loop-number.number low.cases (v.3 p),
    )

pub returns : goal.returns
returns g c = λ p.
    let v = c.loop-number.invariant in
    let facts = c.count.ensures in
    walk_ends (omega (arith, facts.few, facts.value)) ((g.met.S.KeySource.facts c.args.source.now).accepted (omega (arith, facts.value))) v.0 c.loop-number.number c.args.last (omega arith)
    c.in_ok-move_to-2.ensures.cases v.2 (v.3 p)
