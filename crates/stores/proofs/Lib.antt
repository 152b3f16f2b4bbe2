pub mod Search
pub mod Sweep
pub mod Outcomes
pub mod Slots
pub mod HeaderSlots
