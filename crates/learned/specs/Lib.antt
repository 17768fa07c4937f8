pub mod Table
pub mod Answered
