pub mod Standing
pub mod Rows
