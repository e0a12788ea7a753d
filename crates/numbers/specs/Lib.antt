-- The definitions of `numbers`, for the crates above.
pub mod Numbers
pub mod Meaning
