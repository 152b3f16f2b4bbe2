pub mod Seen
pub mod Tails
