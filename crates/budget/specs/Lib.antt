-- The definitions of `budget`, for the crates above.
pub mod Table
pub mod Answers
pub mod Inner
pub mod Meaning
