-- A table as lists of numbers, as loops build it, and how large a line gets. No answer is said with these: nothing here has to be believed.
use Rattle.std.specs.Prelude.{Bool, cond, List, [], ◌++◌, ◌∷◌, suc, zero, ℕ, ◌+ℤ◌, pos, ℤ, get_or, set}
use Rattle.slices.specs.Slices.{Case}
use Rattle.block.specs.Fluids.{fresh, salt}
use Rattle.books.specs.Bookkeeping.{books_of}
use Rattle.zone.specs.declared.lines.Lines.{Lines}
use Rattle.zone.specs.Inner.{terms_of, totals_of}
use Rattle.budget.specs.Table.{row_of}

-- "two rows, fresh and salt"
abbrev pub rows_of : (ℕ → Lines) → List (List ℤ)
rows_of f = row_of (f fresh) ∷ row_of (f salt) ∷ []

-- what a block, with the links that lead on from it, gives to the table, and the table of the blocks below n
unfoldable pub share_of : Case → (ℕ → Bool) → ℕ → List (List ℤ)
share_of c z i = rows_of (λ fluid. terms_of c.grid c.slots (books_of c fluid) z i)

unfoldable pub table_to : ℕ → Case → (ℕ → Bool) → List (List ℤ)
table_to n c z = rows_of (λ fluid. totals_of n (terms_of c.grid c.slots (books_of c fluid) z))

-- a line of a table's row of a fluid
abbrev pub entry : List (List ℤ) → ℕ → ℕ → ℤ
entry t fluid line = get_or (get_or t fluid []) line (pos 0)

-- two rows, and two tables, added line by line
unfoldable pub add_row : List ℤ → List ℤ → List ℤ
add_row [] b = []
add_row (x ∷ a) [] = []
add_row (x ∷ a) (y ∷ b) = (x +ℤ y) ∷ add_row a b

unfoldable pub add_table : List (List ℤ) → List (List ℤ) → List (List ℤ)
add_table t u = add_row (get_or t fresh []) (get_or u fresh []) ∷ add_row (get_or t salt []) (get_or u salt []) ∷ []

-- the rows one after the other
unfoldable pub flat_of : List (List ℤ) → List ℤ
flat_of t = get_or t fresh [] ++ get_or t salt []

-- the greatest line of a table without sign, litres a day: that of 512 balances, the greatest of a block's terms
abbrev pub most_line : ℕ
most_line = 13731044805050368

-- the mark of a block, and marks put in for the blocks below n; the rest is as it was
abbrev pub mark_of : (ℕ → Bool) → ℕ → ℤ
mark_of z i = cond (z i) (pos 1) (pos 0)

unfoldable pub marks_of : ℕ → (ℕ → Bool) → List ℤ → List ℤ
marks_of zero z row = row
marks_of (suc n) z row = set (marks_of n z row) n (mark_of z n)
