pub mod Whole
pub mod Job
