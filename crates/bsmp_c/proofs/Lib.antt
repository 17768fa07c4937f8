-- Modules that belong to no one function. Assumes nothing.
pub mod Same
pub mod Unique
pub mod Apart
