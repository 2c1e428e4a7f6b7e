mod Examples
pub mod Causes
pub mod Lengths
mod Feeding
pub mod Pieces
