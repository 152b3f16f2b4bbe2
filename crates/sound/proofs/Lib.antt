pub mod Walks
pub mod Records
pub mod Seen
pub mod Headers
pub mod Unseen
pub mod Sound
