pub mod Exported
pub mod Values
