pub mod Mixing
pub mod Undo
pub mod Unloading
pub mod Splitting
pub mod Answers
pub mod Tracing
pub mod Feeding
