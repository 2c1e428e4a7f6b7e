pub mod Groups
pub mod Encoding
pub mod Decoding
pub mod Answers
