pub mod Kept
pub mod Files
pub mod Saves
pub mod Reading
pub mod Places
pub mod Resumed
