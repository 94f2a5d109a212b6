pub mod Months
pub mod Claimed
pub mod Reckoned
