-- Laws of ticks and doubles, and the theorems about metres. They hold nothing to believe.
pub mod ShownLaws
pub mod ValueLaws
pub mod NearestLaws
pub mod TakenLaws
pub mod AnswersLaws
pub mod MetresTheorems
pub mod OutcomeTheorems
