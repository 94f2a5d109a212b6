pub mod Suspending
pub mod Resuming
pub mod RoundTrip
pub mod Leading
