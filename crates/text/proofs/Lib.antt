pub mod Digits
pub mod Writing
mod Hexes
