pub mod Laws
pub mod Bytes
mod Signs
