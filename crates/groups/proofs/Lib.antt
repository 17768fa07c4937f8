pub mod Known
pub mod Ascend
pub mod Listing
pub mod Pass
