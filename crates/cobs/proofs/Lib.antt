mod Cases
mod Cutting
mod Reading
pub mod Laws
pub mod Same
mod EncodeLoop
mod DecodeLoop
pub mod Examples
