pub mod Pass
pub mod Inner
