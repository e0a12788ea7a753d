-- Laws of judging and worked numbers. They hold nothing to believe.
pub mod SlicesLaws
pub mod WorkedTheorems
pub mod OutcomeTheorems
