pub mod Session
pub mod Pieces
pub mod Calls
pub mod Machine
pub mod Inner
