pub mod Places
pub mod Order
pub mod Reading
pub mod Listing
pub mod Leaving
pub mod Serving
pub mod Looking
pub mod Turning
