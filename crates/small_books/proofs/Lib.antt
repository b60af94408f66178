pub mod Ones
pub mod Keeping
pub mod Whole
