pub mod Values
pub mod Records
pub mod Parts
pub mod Tables
pub mod Places
pub mod Read
pub mod Write
pub mod Zeros
