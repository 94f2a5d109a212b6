pub mod Block
pub mod Rules
pub mod Laws
