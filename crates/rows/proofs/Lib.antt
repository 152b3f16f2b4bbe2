pub mod Clock
pub mod Steps
pub mod Opening
pub mod PageRows
pub mod Told
