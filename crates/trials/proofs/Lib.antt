pub mod Trials
mod Kept
