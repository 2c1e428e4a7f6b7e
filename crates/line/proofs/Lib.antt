mod Examples
mod Names
pub mod Lengths
