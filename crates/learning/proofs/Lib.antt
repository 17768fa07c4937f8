pub mod Taking
pub mod Grouping
pub mod Taught
pub mod Hearing
