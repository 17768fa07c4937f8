pub mod Tested
pub mod Passed
pub mod Listing
