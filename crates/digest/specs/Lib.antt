pub mod Sum
pub mod Digest
pub mod Machine
