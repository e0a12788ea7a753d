-- The definitions of `casefile`, for the crates above.
pub mod Reading
pub mod Inner
