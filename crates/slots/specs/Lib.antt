-- The definitions of `slots`, for the crates above.
pub mod Units
pub mod Ranges
pub mod Slots
pub mod Rules
pub mod Inner
