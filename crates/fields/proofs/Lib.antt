pub mod Reading
pub mod Zeros
pub mod Sames
pub mod Every
pub mod Blocks
pub mod Checked
