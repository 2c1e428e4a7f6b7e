pub mod Scalars
pub mod Bytes
