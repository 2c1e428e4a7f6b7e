pub mod Lora
pub mod Fsk
pub mod Modulations
pub mod Ranges
