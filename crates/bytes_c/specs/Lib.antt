pub mod Order
pub mod StateBytes
pub mod SessionBytes
pub mod Modes
pub mod Replies
pub mod Machine
pub mod Inner
