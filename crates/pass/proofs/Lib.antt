pub mod Sealing
pub mod Masking
