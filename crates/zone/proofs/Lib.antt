-- Laws of zones and of their lines, and the theorems about them. They hold nothing to believe.
pub mod TermLaws
pub mod LinesLaws
pub mod ZoneTheorems
