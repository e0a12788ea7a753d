-- Tables as lists of numbers: rows added and laid side by side, a table block by block, and how great its lines can be. Assumes nothing.
use mathlib.Core.Bool.{Bool, true}
use mathlib.Core.List.{List, [], ◌++◌, ◌∷◌, append-nil}
use mathlib.Core.Path.{◌∙◌, ◌≡◌, ap, refl, subst}
use Prim.Native.Nat.{◌+◌, ◌<◌, ◌≤◌, suc, zero, ℕ}
use native.Mathlib.Nat.{zero-add}
use native.Mathlib.Numerals.{add-one}
use native.Mathlib.Omega.{arith}
use lib.Dec.{T}
use lib.IntN.{◌+ℤ◌, pos, ℤ}
use lib.ListN.{drop, drop_of_length-le, get_or, length, length-append, length-drop, replicate, set, take}
use lib.Seq.{paste, paste-suc, take_all, take_at}
use Rattle.whole.specs.Sum.{sum}
use Rattle.whole.specs.Inner.{Abs}
use Rattle.whole.proofs.OrderLaws.{abs_zero}
use Rattle.whole.proofs.RangeLaws.{leaf, ranges, within}
use Rattle.whole.proofs.SumLaws.{sum_in, sum_more}
use Rattle.grid.specs.Place.{blocks_of}
use Rattle.grid.specs.Units.{most_blocks}
use Rattle.slices.specs.Slices.{Case}
use Rattle.block.specs.Fluids.{fresh, salt}
use Rattle.wellformed.specs.Inner.{WellFormed}
use Rattle.books.specs.Bookkeeping.{books_of}
use Rattle.balance.specs.Inner.{most_balance}
use Rattle.zone.specs.declared.lines.Lines.{Lines}
use Rattle.zone.specs.Inner.{terms_of, totals_of}
use Rattle.zone.proofs.TermLaws.{Within, terms_in}
use Rattle.budget.specs.Inner.{add_row, add_table, entry, most_line, rows_of, share_of, table_to}
use Rattle.budget.specs.Table.{row_of}

-- ---- two rows added

pub add_length : (a b : List ℤ) → length a ≡ length b → length (add_row a b) ≡ length a
unfolding add_row
add_length [] b e = refl
add_length (x ∷ a) [] e = absurd (omega (arith, e))
add_length (x ∷ a) (y ∷ b) e = ap suc (add_length a b (omega (arith, e)))

pub add_at : (a b : List ℤ) (k : ℕ) → length a ≡ length b → k < length a → get_or (add_row a b) k (pos 0) ≡ get_or a k (pos 0) +ℤ get_or b k (pos 0)
unfolding add_row
add_at [] b k e l = absurd (omega arith)
add_at (x ∷ a) [] k e l = absurd (omega (arith, e))
add_at (x ∷ a) (y ∷ b) zero e l = refl
add_at (x ∷ a) (y ∷ b) (suc k) e l = add_at a b k (omega (arith, e)) (omega (arith, l))

-- ---- a row laid into another, number by number

pub lay_more : (d o v : List ℤ) (at j : ℕ) (x : ℤ) → o ≡ paste d at v j → at + j < length d → j < length v → x ≡ get_or v j (pos 0) → set o (at + j) x ≡ paste d at v (j + 1)
lay_more d o v at j x e hd hv h = rw (h, e, add-one) (paste-suc d at v j (pos 0) hd hv)

pub lay_first : (d o v : List ℤ) (j : ℕ) (x : ℤ) → o ≡ paste d 0 v j → j < length d → j < length v → x ≡ get_or v j (pos 0) → set o j x ≡ paste d 0 v (j + 1)
lay_first d o v j x e hd hv h = subst (λ (k : ℕ). set o k x ≡ paste d 0 v (j + 1)) (zero-add j) (lay_more d o v 0 j x e (omega (arith, hd)) hv h)

-- over a row as long, and one behind the other
pub laid_over : (d v : List ℤ) (n : ℕ) → length d ≡ n → length v ≡ n → paste d 0 v n ≡ v
laid_over d v n hd hv =
    let short : length d ≤ 0 + n = omega (arith, hd) in
    let none : drop (0 + n) d ≡ [] = drop_of_length-le d short in
    rw (take_all n v (omega (arith, hv)), none) (append-nil v)

pub both_rows : (z a b one two : List ℤ) → length z ≡ 18 → length a ≡ 9 → length b ≡ 9 → one ≡ paste z 0 a 9 → two ≡ paste one 9 b 9 → two ≡ a ++ b
both_rows z a b one two hz ha hb p q =
    let e : take 9 a ≡ a = take_all 9 a (omega (arith, ha)) in
    let f : take 9 b ≡ b = take_all 9 b (omega (arith, hb)) in
    let h : length (a ++ drop 9 z) ≤ 18 = omega (arith, hz, ha, length-append a (drop 9 z), length-drop 9 z) in
    q ∙ rw (p, e, take_at a (drop 9 z) 9 ha, f, drop_of_length-le (a ++ drop 9 z) h, append-nil (a ++ b))

-- ---- a table, block by block

pub table_start : (c : Case) (z : ℕ → Bool) → table_to 0 c z ≡ replicate 2 (replicate 9 (pos 0))
unfolding table_to row_of totals_of sum
table_start c z = refl

row_more : (n : ℕ) (f : ℕ → Lines) → row_of (totals_of (n + 1) f) ≡ add_row (row_of (totals_of n f)) (row_of (f n))
unfolding row_of totals_of add_row
row_more n f = λ k.
    sum_more n (λ i. (f i).storage) k
    ∷ sum_more n (λ i. (f i).edge_in) k
    ∷ sum_more n (λ i. (f i).edge_out) k
    ∷ sum_more n (λ i. (f i).converted) k
    ∷ sum_more n (λ i. (f i).wells) k
    ∷ sum_more n (λ i. (f i).recharge) k
    ∷ sum_more n (λ i. (f i).boundary) k
    ∷ sum_more n (λ i. (f i).supply) k
    ∷ sum_more n (λ i. (f i).error) k
    ∷ []

pub table_more : (n : ℕ) (c : Case) (z : ℕ → Bool) → table_to (n + 1) c z ≡ add_table (table_to n c z) (share_of c z n)
unfolding table_to add_table share_of
table_more n c z = λ k.
    row_more n (terms_of c.grid c.slots (books_of c fresh) z) k
    ∷ row_more n (terms_of c.grid c.slots (books_of c salt) z) k
    ∷ []

-- ---- how great the lines are

AllIn : ℕ → List ℤ → Type 0
AllIn most [] = T true
AllIn most (x ∷ xs) = Abs most x × AllIn most xs

all_in : (most : ℕ) (xs : List ℤ) → AllIn most xs → (k : ℕ) → Abs most (get_or xs k (pos 0))
unfolding AllIn
all_in most [] h k = abs_zero most
all_in most (x ∷ xs) h zero = h.0
all_in most (x ∷ xs) h (suc k) = all_in most xs h.1 k

row_in : (most : ℕ) (l : Lines) → Within most l → (line : ℕ) → Abs most (get_or (row_of l) line (pos 0))
unfolding row_of AllIn
row_in most l h =
    all_in most (row_of l)
    (h.storage, (h.edge_in, (h.edge_out, (h.converted, (h.wells, (h.recharge, (h.boundary, (h.supply, (h.error, tt)))))))))

entry_in : (most : ℕ) (f : ℕ → Lines) → ((fluid : ℕ) → Within most (f fluid)) → (fluid line : ℕ) → Abs most (entry (rows_of f) fluid line)
entry_in most f h zero line = row_in most (f fresh) (h fresh) line
entry_in most f h (suc zero) line = row_in most (f salt) (h salt) line
entry_in most f h (suc (suc fluid)) line = abs_zero most

totals_in : (n : ℕ) (f : ℕ → Lines) → n ≤ most_blocks → ((i : ℕ) → i < n → Within most_balance (f i)) → Within most_line (totals_of n f)
unfolding totals_of
totals_in n f h all =
    record {
      storage = sum_in n most_blocks most_balance (λ i. (f i).storage) h (λ i l. (all i l).storage);
      edge_in = sum_in n most_blocks most_balance (λ i. (f i).edge_in) h (λ i l. (all i l).edge_in);
      edge_out = sum_in n most_blocks most_balance (λ i. (f i).edge_out) h (λ i l. (all i l).edge_out);
      converted = sum_in n most_blocks most_balance (λ i. (f i).converted) h (λ i l. (all i l).converted);
      wells = sum_in n most_blocks most_balance (λ i. (f i).wells) h (λ i l. (all i l).wells);
      recharge = sum_in n most_blocks most_balance (λ i. (f i).recharge) h (λ i l. (all i l).recharge);
      boundary = sum_in n most_blocks most_balance (λ i. (f i).boundary) h (λ i l. (all i l).boundary);
      supply = sum_in n most_blocks most_balance (λ i. (f i).supply) h (λ i l. (all i l).supply);
      error = sum_in n most_blocks most_balance (λ i. (f i).error) h (λ i l. (all i l).error);
    }

module _ (c : Case) (formed : WellFormed c) (z : ℕ → Bool) where
  pub share_in : (i : ℕ) → i < blocks_of c.grid → (fluid line : ℕ) → Abs most_line (entry (share_of c z i) fluid line)
  unfolding share_of
  share_in i l fluid line =
      within (search (ranges, leaf (entry_in most_balance (λ fluid. terms_of c.grid c.slots (books_of c fluid) z i) (λ fluid. terms_in c formed fluid z i l) fluid line)) depth 20) tt tt

  pub table_in : (n : ℕ) → n ≤ blocks_of c.grid → (fluid line : ℕ) → Abs most_line (entry (table_to n c z) fluid line)
  unfolding table_to
  table_in n h =
      entry_in most_line (λ fluid. totals_of n (terms_of c.grid c.slots (books_of c fluid) z))
      (λ fluid. totals_in n (terms_of c.grid c.slots (books_of c fluid) z) (omega (arith, h, formed.judged.counted.blocks_most)) (λ i l. terms_in c formed fluid z i (omega (arith, h, l))))
