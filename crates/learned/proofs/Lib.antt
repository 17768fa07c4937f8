pub mod Fronts
pub mod Sizes
pub mod Limits
pub mod Answered
