pub mod Segments
pub mod Tags
pub mod SomeH
pub mod Shows
pub mod Counterexamples
