-- Laws of one block. They hold nothing to believe.
pub mod FluidLaws
pub mod DensityLaws
pub mod DensityTheorems
pub mod BlockLaws
pub mod OutcomeTheorems
