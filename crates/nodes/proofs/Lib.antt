pub mod Testing
pub mod Walking
pub mod Numbered
pub mod Downward
pub mod Paths
pub mod Tabled
pub mod Onward
