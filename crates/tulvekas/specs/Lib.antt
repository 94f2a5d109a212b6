pub mod Sessions
pub mod Pages
pub mod Files
pub mod Keys
pub mod Cipher
pub mod Search
pub mod Dates
