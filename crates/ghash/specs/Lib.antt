pub mod Field
pub mod Hash
pub mod Laws
pub mod Machine
pub mod Inner
