pub mod Digits
pub mod Lines
pub mod Calls
pub mod History
