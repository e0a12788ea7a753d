-- Laws of rows, of a case's blocks, of what links carry and of a block's own terms, and theorems about the books. They hold nothing to believe.
pub mod RowsLaws
pub mod WatersLaws
pub mod CarriedLaws
pub mod OwnLaws
pub mod AlikeLaws
pub mod BooksTheorems
