pub mod Field
pub mod Round
pub mod Unround
pub mod Tables
pub mod Columns
pub mod Laws
