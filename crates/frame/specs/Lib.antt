pub mod Body
pub mod Writing
pub mod Reading
pub mod Stream
