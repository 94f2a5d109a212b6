pub mod Pieces
pub mod Drawing
pub mod Within
pub mod Going
pub mod Made
pub mod Whole
pub mod Streaming
pub mod Numbers
pub mod Counts
pub mod Beginning
pub mod Typed
mod Masked
