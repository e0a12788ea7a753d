-- The definitions of `books`, for the crates above.
pub mod Waters
pub mod Links
pub mod Own
pub mod Bookkeeping
pub mod Inner
