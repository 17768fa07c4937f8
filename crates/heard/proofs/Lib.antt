pub mod Three
pub mod Values
