pub mod Writing
pub mod Digits
pub mod Reading
pub mod Taken
pub mod Printing
pub mod Whole
pub mod Sealing
