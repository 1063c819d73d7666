use Rattle.std.proofs.Common.{◌≡◌, length, drop, None}
use Rattle.keys.specs.Stack.{quotas}
use Rattle.keys.specs.Walks.{Walked}
use Rattle.keys.proofs.walking.walk.Given as goal

abbrev pub invariant-loop-number : goal.invariant-loop-number
invariant-loop-number g l =
    let S = g.S.KeySource in
    let C = g.C.BlockCipher.model in
    let e = l.initial.source in
    (S.stack l.source ≡ S.stack e) × (length l.key ≡ 32) × (drop C.key l.key ≡ drop C.key l.initial.key)
    × (S.stands e ≡ None → Walked (quotas (S.stack e)) l.number (S.stands l.source) (S.ledgers l.source))
