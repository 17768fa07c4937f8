pub mod Named
pub mod One
pub mod Listing
pub mod Passes
