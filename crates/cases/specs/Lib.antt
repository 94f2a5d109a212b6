pub mod Starred
pub mod Counts
pub mod Dates
