pub mod Faults
pub mod Ciphers
pub mod Requests
pub mod Answers
pub mod Lines
