-- Laws and theorems of the reach of a head, and worked numbers. They hold nothing to believe.
pub mod SeenLaws
pub mod ReachLaws
pub mod ReachTheorems
pub mod WorkedTheorems
