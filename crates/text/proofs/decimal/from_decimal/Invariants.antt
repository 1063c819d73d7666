use Rattle.std.proofs.Common.{◌≡◌, ◌^◌, ◌<◌, ◌≤◌, length, take, drop}
use Rattle.std.specs.List.{AllByRecursion}
use Rattle.text.specs.Numerals.{spelled}
use Rattle.text.proofs.decimal.from_decimal.Given as goal

abbrev pub invariant-loop-c : goal.invariant-loop-c
invariant-loop-c l =
    (0 < length l.text) × (l.total < 2 ^ 32)
    × AllByRecursion (λ c. (48 ≤ c) × (c < 58)) (take l.c-index l.text)
    × (spelled l.total (drop l.c-index l.text) ≡ spelled 0 l.text)
