pub mod Request
pub mod Learned
pub mod Reply
pub mod Learning
