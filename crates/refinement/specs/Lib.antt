pub mod Seen
pub mod Refines
pub mod Demands
pub mod Named
pub mod Values
