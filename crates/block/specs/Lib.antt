-- The definitions of `block`, for the crates above.
pub mod Units
pub mod Fluids
pub mod Density
pub mod Geometry
pub mod Storage
pub mod Wells
pub mod Inner
