pub mod Named
pub mod BlockAt
pub mod Listing
pub mod Passes
