-- Laws of tables and answers, the theorems about them, and worked numbers. They hold nothing to believe.
pub mod TableLaws
pub mod AnswersLaws
pub mod LayersLaws
pub mod RoomLaws
pub mod BudgetTheorems
pub mod WorkedTheorems
pub mod OutcomeTheorems
