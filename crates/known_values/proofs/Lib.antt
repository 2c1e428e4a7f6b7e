pub mod KnownValues
pub mod Examples
