pub mod Checks
pub mod Counting
pub mod Lengths
pub mod Pairs
pub mod Totals
pub mod Thirds
