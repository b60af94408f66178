pub mod OnPlane
pub mod Table
pub mod Views
pub mod Faults
