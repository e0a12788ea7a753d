-- The definitions of `reach`, for the crates above.
pub mod Reach
pub mod Meaning
