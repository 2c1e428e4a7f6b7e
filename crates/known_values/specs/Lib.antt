pub mod KnownValues
