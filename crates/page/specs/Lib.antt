pub mod Page
pub mod OnePass
pub mod Calls
pub mod Reached
pub mod Inner
pub mod Machine
