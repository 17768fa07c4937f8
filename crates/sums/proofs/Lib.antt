pub mod Contents
pub mod Lengths
pub mod Summing
pub mod Sums
