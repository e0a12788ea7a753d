-- The definitions of `session`, for the crates above.
pub mod Sessions
pub mod Meaning
