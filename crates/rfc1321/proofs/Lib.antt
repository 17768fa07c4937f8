pub mod Words
pub mod Digest
pub mod Computes
pub mod Suite
pub mod Turns
