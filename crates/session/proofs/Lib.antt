-- Laws of what is printed for a case, and the theorems about it. They hold nothing to believe.
pub mod SessionLaws
pub mod SessionTheorems
pub mod OutcomeTheorems
