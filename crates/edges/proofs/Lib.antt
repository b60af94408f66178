pub mod Turning
pub mod Numbered
pub mod Workings
pub mod Entries
pub mod Gather
pub mod Walking
pub mod Chained
