pub mod Listing
mod Short
