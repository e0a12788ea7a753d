-- The laws of `crossing`, for the crate above.
pub mod CrossingLaws
pub mod OutcomeTheorems
