pub mod Every
pub mod Words
pub mod Numbers
pub mod Sizes
pub mod Joining
