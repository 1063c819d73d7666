pub mod Levels
pub mod LevelKeys
pub mod InnerKeys
