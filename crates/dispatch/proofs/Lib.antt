pub mod Laws
mod Taking
