pub mod Whole
pub mod Walk
pub mod Runs
pub mod Stepped
