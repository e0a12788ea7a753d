-- The definitions of `verdict`, for the crates above.
pub mod Places
pub mod Ruling
pub mod Acceptance
