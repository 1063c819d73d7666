-- How a new key is made under a key: blocks are enciphered, and joined (RFC 8645). Assumes nothing.
use Rattle.std.specs.Prelude.{ℕ, ◌+◌, ◌-◌, ◌*◌, ◌/◌, List, ◌++◌, replicate}
use Rattle.std.specs.List.{range_with_len, flat_map}
use Rattle.cipher.specs.Bytes.{number}
use Rattle.cipher.specs.Model.{Model}

-- J: how many blocks make a key
abbrev pub parts : Model → ℕ
parts c = c.key / c.block

-- E under a key of the blocks f 0, f 1 .. f (J - 1), joined
unfoldable pub made : Model → List ℕ → (ℕ → List ℕ) → List ℕ
made c key f = flat_map (λ j. c.enc key (f j)) (range_with_len 0 (parts c))

-- D(j + 1), of n bytes: the bytes 80, 81 and so on, cut into blocks
unfoldable pub constant : ℕ → ℕ → List ℕ
constant n j = range_with_len (0x80 + j * n) n

-- the J numbers that belong to the key number k, [kJ], [kJ + 1] .. [kJ + J - 1], a block of n bytes each
abbrev pub numbered : ℕ → ℕ → ℕ → ℕ → List ℕ
numbered n J k j = number n (k * J + j)

-- half of n bytes FF, then the number t in the other half
unfoldable pub marked : ℕ → ℕ → List ℕ
marked n t = replicate (n / 2) 0xff ++ number (n - n / 2) t

-- the same J numbers behind bytes FF
abbrev pub marked_numbers : ℕ → ℕ → ℕ → ℕ → List ℕ
marked_numbers n J k j = marked n (k * J + j)

-- a key renewed (ACPKM)
abbrev pub renewed : Model → List ℕ → List ℕ
renewed c key = made c key (constant c.block)

-- E under a key of the numbers t, t + 1 .., a block each, joined
abbrev pub derived : Model → List ℕ → ℕ → List ℕ
derived c key t = made c key (λ j. number c.block (t + j))

-- the key of number k under a key
abbrev pub numbered_key : Model → List ℕ → ℕ → List ℕ
numbered_key c key k = made c key (numbered c.block (parts c) k)

-- the key of number k under a master key (ACPKM-Master)
abbrev pub master_key : Model → List ℕ → ℕ → List ℕ
master_key c key k = made c key (marked_numbers c.block (parts c) k)
