pub mod Admission
pub mod Exact
pub mod Looking
pub mod Unique
