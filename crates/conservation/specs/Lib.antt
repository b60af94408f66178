pub mod Answered
pub mod Law
pub mod TwoBooks
