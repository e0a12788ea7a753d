-- Laws of places and of the verdict, and the theorems about it. They hold nothing to believe.
pub mod PlacesLaws
pub mod RulingLaws
pub mod AcceptanceLaws
pub mod VerdictTheorems
pub mod WorkedTheorems
pub mod OutcomeTheorems
