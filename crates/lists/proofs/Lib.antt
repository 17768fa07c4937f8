pub mod Sum
pub mod Mask
pub mod Pieces
pub mod Blocks
