pub mod Files
pub mod Judging
pub mod Calls
pub mod Theorems
