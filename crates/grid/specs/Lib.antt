-- The definitions of `grid`, for the crates above.
pub mod Units
pub mod Record
pub mod Weights
pub mod Place
pub mod Judging
pub mod Inner
pub mod Meaning
