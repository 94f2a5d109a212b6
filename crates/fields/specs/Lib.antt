pub mod Fields
pub mod Blocks
