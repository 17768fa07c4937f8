pub mod Judging
pub mod Answering
pub mod Storing
pub mod Freshening
pub mod Unique
