pub mod Digits
pub mod Encoding
pub mod Spacing
