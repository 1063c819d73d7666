pub mod Turns
pub mod Lookups
pub mod States
pub mod Expansion
pub mod Keys
pub mod Maps
