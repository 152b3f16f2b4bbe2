pub mod Numbers
pub mod Within
pub mod Layouts
pub mod Fields
pub mod Cover
pub mod Splice
