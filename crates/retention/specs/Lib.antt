pub mod Keeping
pub mod Machine
pub mod Laws
