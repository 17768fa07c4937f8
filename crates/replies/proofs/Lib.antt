pub mod Opening
pub mod Reading
