-- The definitions of `fields`, for the crates above.
pub mod Fields
pub mod Runs
pub mod Inner
