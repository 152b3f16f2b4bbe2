pub mod Sees
pub mod Unique
