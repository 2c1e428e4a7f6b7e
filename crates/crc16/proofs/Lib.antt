mod Xor
mod Linear
mod Fold
pub mod Laws
pub mod Examples
