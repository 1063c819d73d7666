pub mod Made
pub mod Standing
