pub mod Listing
pub mod Stream
