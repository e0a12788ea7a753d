-- The definitions of `balance`, for the crates above.
pub mod Balance
pub mod Inner
