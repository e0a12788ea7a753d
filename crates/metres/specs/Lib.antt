-- The definitions of `metres`, for the crates above.
pub mod Metres
pub mod Boundaries
pub mod Meaning
pub mod Inner
