pub mod Plane
pub mod Faults
pub mod Answers
pub mod Tied
