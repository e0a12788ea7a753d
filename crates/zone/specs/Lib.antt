-- The definitions of `zone`, for the crates above.
pub mod Zones
pub mod Exchange
pub mod Holdings
pub mod Table
pub mod Accounts
pub mod Inner
