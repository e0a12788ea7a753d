-- Laws of what crosses to other languages. They hold nothing to believe.
pub mod HandedLaws
pub mod ClientTheorems
pub mod OutcomeTheorems
