pub mod Calls
pub mod Walk
pub mod Machine
