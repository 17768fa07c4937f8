pub mod Chunks
pub mod Feeding
pub mod Closing
pub mod Pieces
