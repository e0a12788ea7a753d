-- The toolkit of signed numbers, sums and searches. It holds laws alone: nothing here is to be believed.
pub mod Parts
pub mod LinearLaws
pub mod OrderLaws
pub mod DivisionLaws
pub mod RingLaws
pub mod RangeLaws
pub mod SumLaws
pub mod SearchLaws
pub mod WithinLaws
pub mod LentLaws
pub mod ClosestLaws
pub mod RoundedLaws
pub mod OutcomeTheorems
