pub mod Examples
pub mod Laws
mod Putting
mod Rows
