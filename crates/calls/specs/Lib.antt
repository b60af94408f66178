pub mod Limits
pub mod Records
pub mod Sheets
pub mod Views
pub mod Depths
pub mod Moves
pub mod Faults
pub mod Fits
