pub mod Info
pub mod Ranges
