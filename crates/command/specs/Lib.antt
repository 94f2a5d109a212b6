pub mod Hex
pub mod Lines
pub mod Output
pub mod Machine
pub mod Laws
