pub mod Listing
pub mod Passes
