-- Laws of flows. They hold nothing to believe.
pub mod LitresLaws
pub mod LitresTheorems
pub mod LateralLaws
pub mod LeakageLaws
pub mod BoundaryLaws
pub mod BoundaryTheorems
pub mod OutcomeTheorems
