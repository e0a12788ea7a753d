-- Laws of the numbers of a case file and of runs of them, and worked numbers. They hold nothing to believe.
pub mod FilledLaws
pub mod RunsLaws
pub mod WorkedTheorems
pub mod OutcomeTheorems
