pub mod Pieces
pub mod Settling
pub mod Preserved
pub mod Slices
