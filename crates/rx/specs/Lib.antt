pub mod Rx
pub mod Ranges
