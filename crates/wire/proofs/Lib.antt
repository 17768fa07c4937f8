pub mod Opening
pub mod Frame
