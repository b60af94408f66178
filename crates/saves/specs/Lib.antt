pub mod Faults
pub mod Written
pub mod Saving
pub mod Records
pub mod Filled
