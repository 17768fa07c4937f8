pub mod Order
pub mod Little
pub mod Sizes
pub mod Signed
pub mod Unique
