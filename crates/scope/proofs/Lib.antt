pub mod Refusing
pub mod Refused
