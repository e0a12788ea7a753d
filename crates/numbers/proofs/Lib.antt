-- Laws of a file's numbers, the theorems about them, and worked numbers. They hold nothing to believe.
pub mod NumbersLaws
pub mod BytesLaws
pub mod NumbersTheorems
pub mod WorkedTheorems
pub mod OutcomeTheorems
