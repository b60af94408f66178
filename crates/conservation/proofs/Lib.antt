pub mod Stepping
pub mod Running
pub mod Filing
pub mod Conserved
pub mod Ending
pub mod Applied
