pub mod Refusals
pub mod Stack
pub mod Sources
pub mod Moving
pub mod Bottom
pub mod Walks
pub mod FoundedFacts
