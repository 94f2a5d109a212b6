pub mod Start
pub mod Leads
pub mod Trace
pub mod Machine
pub mod Laws
pub mod Inner
