pub mod Tables
pub mod Receiving
pub mod Carrying
pub mod Unique
