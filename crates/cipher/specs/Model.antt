-- A block cipher: two functions of a key and a block, and their law. Assumes nothing.
use Rattle.std.specs.Prelude.{◌≡◌, ℕ, ◌⊎◌, List}
use Rattle.cipher.specs.Bytes.{Bytes}

pub record Model : Type 0 where
  -- the bytes of a block, and of a key
  pub block : ℕ
  pub key : ℕ
  -- E and D
  pub enc : List ℕ → List ℕ → List ℕ
  pub dec : List ℕ → List ℕ → List ℕ

pub record Laws (c : Model) : Type 0 where
  pub blocks : (c.block ≡ 8) ⊎ (c.block ≡ 16)
  pub keys : (c.key ≡ 16) ⊎ (c.key ≡ 32)
  -- a block enciphered is a block
  pub made : (key block : List ℕ) → Bytes c.key key → Bytes c.block block → Bytes c.block (c.enc key block)
  -- deciphering undoes enciphering, under every key, on every block
  pub undo : (key block : List ℕ) → Bytes c.key key → Bytes c.block block → c.dec key (c.enc key block) ≡ block
