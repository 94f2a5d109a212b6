pub mod Cells
pub mod Clock
pub mod Unclock
pub mod Machine
pub mod Laws
