pub mod Requests
pub mod Keys
