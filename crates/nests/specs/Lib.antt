pub mod Unready
