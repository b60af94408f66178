pub mod Reading
pub mod Rowwise
pub mod Shaping
pub mod Sets
pub mod Booked
pub mod Branches
