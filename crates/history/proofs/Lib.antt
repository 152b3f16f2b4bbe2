pub mod Keeping
pub mod Ranges
pub mod Fitting
pub mod Served
pub mod Fresh
pub mod Calls
pub mod NothingLost
pub mod Contracts
