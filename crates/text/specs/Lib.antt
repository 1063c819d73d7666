pub mod Faults
pub mod Hex
pub mod Numerals
pub mod Words
