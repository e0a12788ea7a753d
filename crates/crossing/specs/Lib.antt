-- The definitions of `crossing`, for the crate above.
pub mod Crossing
pub mod Inner
