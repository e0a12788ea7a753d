-- The definitions of `flow`, for the crates above.
pub mod Litres
pub mod Lateral
pub mod Leakage
pub mod Boundary
pub mod Inner
pub mod Meaning
