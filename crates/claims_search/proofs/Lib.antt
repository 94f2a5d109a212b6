pub mod Reaching
pub mod Claimed
