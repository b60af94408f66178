pub mod Faults
pub mod Differences
pub mod Points
