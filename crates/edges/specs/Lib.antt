pub mod Views
pub mod Working
pub mod Answers
pub mod Faults
