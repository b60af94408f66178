pub mod Noting
pub mod Sound
pub mod Traced
pub mod Telling
pub mod Refusing
pub mod Laws
pub mod Fitting
