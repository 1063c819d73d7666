use Rattle.std.proofs.Common.{◌≡◌, ◌-◌, ◌*◌, map, take}
use Rattle.std.specs.List.{range_with_len}
use Rattle.cipher.specs.Bytes.{word}
use Rattle.aes.specs.Aes.{expanded}
use Rattle.aes.proofs.schedule.key_expansion.Given as goal

abbrev pub invariant-loop-i : goal.invariant-loop-i
invariant-loop-i l = take l.i l.w ≡ map (λ k. word l.key (4 * k)) (range_with_len 0 l.i)

abbrev pub invariant-loop-i-2 : goal.invariant-loop-i-2
invariant-loop-i-2 l = take l.i l.w ≡ expanded l.nk (l.i - l.nk) l.key
