-- The definitions of `slices`, for the crates above.
pub mod Refusals
pub mod Slices
pub mod Cases
pub mod Inner
pub mod Meaning
