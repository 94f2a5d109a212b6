pub mod Lists
pub mod Writes
pub mod Fairness
pub mod ByItself
pub mod OnBytes
