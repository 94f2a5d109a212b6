pub mod Layout
pub mod File
pub mod Calls
pub mod Machine
pub mod Inner
