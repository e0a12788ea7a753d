-- Laws of a block's slots. They hold nothing to believe.
pub mod SlotsLaws
pub mod OutcomeTheorems
