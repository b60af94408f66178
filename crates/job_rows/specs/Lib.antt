pub mod Limits
pub mod Shapes
