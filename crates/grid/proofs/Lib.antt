-- Laws of the record, of places and of links, and the theorems about them. They hold nothing to believe.
pub mod PlaceLaws
pub mod JudgingLaws
pub mod GridTheorems
pub mod OutcomeTheorems
