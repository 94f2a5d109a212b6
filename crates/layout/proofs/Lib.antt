pub mod RegisterBytes
pub mod Obeying
pub mod Written
pub mod Taken
pub mod ReadAndWritten
