-- Laws of a case that is judged in full. They hold nothing to believe.
pub mod LinksLaws
pub mod WidthsLaws
pub mod LimitsLaws
pub mod QuickLaws
pub mod RoomLaws
pub mod SpotLaws
pub mod RefusedLaws
pub mod WellformedTheorems
pub mod WorkedTheorems
pub mod OutcomeTheorems
