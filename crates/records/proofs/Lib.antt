pub mod Walk
pub mod Lending
pub mod Bounds
pub mod Sound
pub mod Blocks
pub mod Marking
pub mod Unique
