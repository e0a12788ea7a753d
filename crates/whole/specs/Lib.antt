-- The definitions of `whole`, for the crates above.
pub mod Whole
pub mod Sum
pub mod Search
pub mod Ranges
pub mod Lent
pub mod Outcome
pub mod Inner
