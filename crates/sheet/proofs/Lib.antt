pub mod Refusing
pub mod Recording
