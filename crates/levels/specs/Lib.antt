pub mod Making
pub mod Onward
pub mod Advanced
pub mod Numbers
pub mod LevelState
pub mod OneProof
pub mod LevelFacts
