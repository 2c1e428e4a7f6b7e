pub mod Laws
pub mod Same
mod Building
mod Decoding
pub mod Stream
pub mod Bytes
pub mod Examples
