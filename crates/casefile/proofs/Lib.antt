-- Laws of the whole reading, the theorems about case files, and worked numbers. They hold nothing to believe.
pub mod CasefileTheorems
pub mod ReadingLaws
pub mod WorkedTheorems
pub mod OutcomeTheorems
