pub mod Faults
pub mod Floors
