pub mod Silence
pub mod Types
pub mod Serving
pub mod Unique
