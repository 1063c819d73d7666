pub mod Paired
pub mod Tables
pub mod Feistel
pub mod WordsAndBytes
pub mod Made
