pub mod Commands
pub mod Ranges
