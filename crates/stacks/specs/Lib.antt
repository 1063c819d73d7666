pub mod Stacks
pub mod Keys
