pub mod Bytes
pub mod Tables
pub mod Model
pub mod Derivation
pub mod KeyBlocks
