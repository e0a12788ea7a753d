-- The definitions of `report`, for the crates above.
pub mod Reports
pub mod WorkedByHand
pub mod Meaning
