pub mod Fitting
pub mod Counts
pub mod Order
pub mod Fives
