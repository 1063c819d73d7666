pub mod Rows
pub mod Magma
pub mod Pairs
pub mod Law
pub mod Permutation
pub mod Feistel
pub mod WordsAndBytes
