-- Laws of a block's report, the theorems about it, and worked numbers. They hold nothing to believe.
pub mod ReportLaws
pub mod ReportTheorems
pub mod WorkedTheorems
pub mod OutcomeTheorems
