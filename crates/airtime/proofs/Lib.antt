pub mod Ranges
pub mod Term
pub mod Laws
pub mod Examples
