pub mod Sizes
pub mod StateLaws
pub mod SessionLaws
pub mod Answering
pub mod Replies
