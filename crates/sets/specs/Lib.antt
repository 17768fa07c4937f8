pub mod Members
pub mod Promises
