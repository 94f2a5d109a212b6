pub mod Xor
pub mod Bytes
pub mod Sums
pub mod Differences
pub mod Machine
