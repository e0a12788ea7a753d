-- The definitions of `wellformed`, for the crates above.
pub mod Widths
pub mod Links
pub mod Limits
pub mod Inner
pub mod Meaning
