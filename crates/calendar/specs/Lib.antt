pub mod Calendar
pub mod Calls
pub mod Machine
pub mod Laws
pub mod Inner
