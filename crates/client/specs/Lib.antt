-- The definitions of `client`.
pub mod Kept
