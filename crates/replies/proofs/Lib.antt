mod Replying
mod Front
mod Alone
