pub mod Firsts
pub mod Moving
pub mod Families
pub mod Downward
pub mod Staying
pub mod Keeping
