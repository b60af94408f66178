mod Listing
mod Lefts
mod Joining
mod Leading
mod Steps
mod Levels
mod Going
mod Wholes
