pub mod Pages
pub mod Sealing
pub mod Placing
pub mod Surveying
pub mod Reading
pub mod Opening
pub mod Writing
