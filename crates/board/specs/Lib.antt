pub mod Board
pub mod Ldro
pub mod Params
