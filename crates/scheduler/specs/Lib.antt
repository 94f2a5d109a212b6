pub mod Scheduler
pub mod Calls
pub mod Bytes
pub mod Inner
pub mod Machine
