pub mod Layout
pub mod Store
pub mod Calls
pub mod Machine
pub mod Laws
pub mod Inner
