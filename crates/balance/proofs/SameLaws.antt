-- Books that agree on what links bring and on what active blocks have, and cases whose books do, have the same balances. Cases alike in the numbers that
-- they need are such cases. Assumes nothing.
use mathlib.Core.Bool.{Bool, ◌&&◌, false, true}
use mathlib.Core.List.{List}
use mathlib.Core.Path.{◌∙◌, ◌≡◌, ap, ap₂, refl, subst, sym}
use Prim.Native.Nat.{◌%◌, ◌*◌, ◌+◌, ◌-◌, ◌/◌, ◌<◌, ◌≤◌, suc, zero, ℕ}
use native.Mathlib.Omega.{arith}
use lib.Dec.{T, leb, ltb}
use lib.IntN.{◌+ℤ◌, ◌-ℤ◌, neg_ℤ, ℤ}
use Rattle.std.specs.Prelude.{Some}
use Rattle.whole.specs.Sum.{back, only}
use Rattle.whole.proofs.SearchLaws.{holds, same_test}
use Rattle.whole.proofs.SumLaws.{only_same, sum_same}
use Rattle.grid.specs.declared.Grid.{Grid}
use Rattle.grid.specs.Inner.{Counted}
use Rattle.grid.specs.Place.{behind_of, blocks_of, has_next, next_of, place_of, stride_of}
use Rattle.grid.specs.Units.{above}
use Rattle.grid.proofs.PlaceLaws.{behind_inside}
use Rattle.slots.specs.Slots.{block_of, is_active}
use Rattle.slices.specs.Slices.{Case, case_of}
use Rattle.block.specs.Fluids.{fresh, salt}
use Rattle.block.proofs.FluidLaws.{both_same}
use Rattle.wellformed.specs.Limits.{block_in}
use Rattle.wellformed.specs.Links.{active_of, live_of}
use Rattle.wellformed.specs.Widths.{area_of}
use Rattle.wellformed.proofs.LinksLaws.{joined_live, live_high, live_inside, live_low, live_next}
use Rattle.wellformed.proofs.RoomLaws.{Alike, along_same, area_same, block_in_same, face_same}
use Rattle.books.specs.Bookkeeping.{Books, books_of, brought_of}
use Rattle.books.specs.Links.{carried_of, counts_of, lateral_at, leakage_at, named_of}
use Rattle.books.specs.Own.{fixed_of, own_of}
use Rattle.books.specs.Waters.{waters_of}
use Rattle.books.proofs.AlikeLaws.{behind_same, carried_same, counts_same, lateral_same, leakage_same, named_same, own_same, side_same, waters_same}
use Rattle.books.proofs.CarriedLaws.{brought_dead}
use Rattle.balance.specs.Balance.{balance_in, balance_of, balances_of, flows_of, through_of}

-- ---- two books of one grid

-- the slots s and t have the same active blocks; every link brings the same to either side, and every active block has the same of its own. No
-- balance and no line of a zone reads more of a link than what it brings.
pub record SameBooks (g : Grid) (s t : List ℤ) (F F' : Books) : Type 0 where
  pub active : (i : ℕ) → i < blocks_of g → active_of s i ≡ active_of t i
  pub brought : (low : Bool) (d i : ℕ) → d < 3 → i < blocks_of g → brought_of F low d i ≡ brought_of F' low d i
  pub own : (i : ℕ) → i < blocks_of g → T (active_of s i) → F.own i ≡ F'.own i
  pub fixed : (i : ℕ) → i < blocks_of g → T (active_of s i) → F.fixed i ≡ F'.fixed i

-- a block's balance is told by what the links that lead on from it and those that end in it bring, and by its own terms
pub balance_by_links : (g h : Grid) (F F' : Books) (i : ℕ)
    → ((d : ℕ) → d < 3 → brought_of F true d i ≡ brought_of F' true d i)
    → ((d : ℕ) → d < 3 → back (stride_of g d) (brought_of F false d) i ≡ back (stride_of h d) (brought_of F' false d) i)
    → F.own i ≡ F'.own i
    → balance_in g F i ≡ balance_in h F' i
unfolding balance_in flows_of through_of
balance_by_links g h F F' i leading ending own =
    ap₂ (λ net o. net +ℤ o.recharge +ℤ o.boundary -ℤ o.pumped -ℤ o.storage) (sum_same 3 _ _ (λ d l. ap₂ ◌+ℤ◌ (leading d l) (ending d l))) own

-- the same books have the same balance in every active block
pub balance_same : {g : Grid} {s t : List ℤ} {F F' : Books} → SameBooks g s t F F' → (i : ℕ) → i < blocks_of g → T (active_of s i) → balance_in g F i ≡ balance_in g F' i
unfolding back
balance_same {g} {s} {t} {F} {F'} same i l a =
    balance_by_links g g F F' i (λ d h. same.brought true d i h l)
    (λ d h. ap (only (leb (stride_of g d) i)) (same.brought false d (i - stride_of g d) h (omega (arith, l))))
    (same.own i l a)

-- ---- two grids of one shape

-- they have as many columns, rows and layers; nothing else of the record is asked
pub record SameShape (g h : Grid) : Type 0 where
  pub columns : g.columns ≡ h.columns
  pub rows : g.rows ≡ h.rows
  pub layers : g.layers ≡ h.layers

-- one grid has one shape
pub shape_of_one : {g h : Grid} → g ≡ h → SameShape g h
shape_of_one e = record { columns = λ k. (e k).columns; rows = λ k. (e k).rows; layers = λ k. (e k).layers }

module _ (g h : Grid) (shape : SameShape g h) where
  stride_alike : (d : ℕ) → stride_of g d ≡ stride_of h d
  stride_alike zero = refl
  stride_alike (suc zero) = shape.columns
  stride_alike (suc (suc d)) = ap₂ ◌*◌ shape.columns shape.rows

  next_alike : (d i : ℕ) → next_of g d i ≡ next_of h d i
  unfolding next_of has_next place_of
  next_alike zero i = λ k. ltb (i % shape.columns k + 1) (shape.columns k)
  next_alike (suc zero) i = λ k. ltb (i / shape.columns k % shape.rows k + 1) (shape.rows k)
  next_alike (suc (suc d)) i = λ k. ltb (i / shape.columns k / shape.rows k + 1) (shape.layers k)

  -- links are live in both or in none, where the same blocks are active
  live_alike : (s t : List ℤ) → Counted g → ((i : ℕ) → i < blocks_of g → active_of s i ≡ active_of t i) → (d i : ℕ) → i < blocks_of g → live_of g s d i ≡ live_of h t d i
  unfolding live_of
  live_alike s t counted active d i l =
      same_test (live_of g s d i) (live_of g t d i) (over s t active) (over t s (λ i l. sym (active i l)))
      ∙ λ k. next_alike d i k && (active_of t i && active_of t (i + stride_alike d k))
    where
      over : (s t : List ℤ) → ((i : ℕ) → i < blocks_of g → active_of s i ≡ active_of t i) → T (live_of g s d i) → T (live_of g t d i)
      over s t active live =
          joined_live g t d i (live_next g s d i live) (subst T (active i l) (live_low g s d i live))
          (subst T (active (i + stride_of g d) (live_inside g s d i live counted l)) (live_high g s d i live))

-- ---- two cases

-- a link brings the same in two cases if it is live in both or in neither and, where it is, carries the same and counts as the fluid alike
pub brought_by_link : (c e : Case) (fluid : ℕ) (low : Bool) (d i : ℕ)
    → live_of c.grid c.slots d i ≡ live_of e.grid e.slots d i
    → (T (live_of c.grid c.slots d i) → (carried_of c fluid d i ≡ carried_of e fluid d i) × (counts_of c.grid c.slots fluid d i low ≡ counts_of e.grid e.slots fluid d i low))
    → brought_of (books_of c fluid) low d i ≡ brought_of (books_of e fluid) low d i
unfolding brought_of books_of
brought_by_link c e fluid low d i live link = go (live_of c.grid c.slots d i) refl
  where
    alike : (low : Bool) → carried_of c fluid d i ≡ carried_of e fluid d i → counts_of c.grid c.slots fluid d i low ≡ counts_of e.grid e.slots fluid d i low → brought_of (books_of c fluid) low d i ≡ brought_of (books_of e fluid) low d i
    alike true carried counts = λ k. only (counts k) (neg_ℤ (only (live k) (carried k)))
    alike false carried counts = λ k. only (counts k) (only (live k) (carried k))

    go : (b : Bool) → live_of c.grid c.slots d i ≡ b → brought_of (books_of c fluid) low d i ≡ brought_of (books_of e fluid) low d i
    go true t = alike low (link (holds t)).0 (link (holds t)).1
    go false t = brought_dead c fluid d i low t ∙ sym (brought_dead e fluid d i low (sym live ∙ t))

-- in two cases of one shape, with the same blocks active, a link is live in both or in neither
pub brought_same : (c e : Case) → SameShape c.grid e.grid → Counted c.grid → ((i : ℕ) → i < blocks_of c.grid → active_of c.slots i ≡ active_of e.slots i)
    → (fluid : ℕ) (low : Bool) (d i : ℕ) → i < blocks_of c.grid
    → (T (live_of c.grid c.slots d i) → (carried_of c fluid d i ≡ carried_of e fluid d i) × (counts_of c.grid c.slots fluid d i low ≡ counts_of e.grid e.slots fluid d i low))
    → brought_of (books_of c fluid) low d i ≡ brought_of (books_of e fluid) low d i
brought_same c e shape counted active fluid low d i l link = brought_by_link c e fluid low d i (live_alike c.grid e.grid shape c.slots e.slots counted active d i l) link

-- two cases of one shape have the same active blocks, and in a fluid the same on every live link and of every active block
pub record SameCases (c e : Case) (fluid : ℕ) : Type 0 where
  pub shape : SameShape c.grid e.grid
  pub active : (i : ℕ) → i < blocks_of c.grid → active_of c.slots i ≡ active_of e.slots i
  pub lateral : (d i : ℕ) → d < above → i < blocks_of c.grid → T (live_of c.grid c.slots d i) → lateral_at c fluid d i ≡ lateral_at e fluid d i
  pub leakage : (i : ℕ) → i < blocks_of c.grid → T (live_of c.grid c.slots above i) → leakage_at c i ≡ leakage_at e i
  pub named : (low : Bool) (i : ℕ) → i < blocks_of c.grid → T (live_of c.grid c.slots above i) → named_of c.grid c.slots i low ≡ named_of e.grid e.slots i low
  pub own : (i : ℕ) → i < blocks_of c.grid → T (active_of c.slots i) → own_of c fluid i ≡ own_of e fluid i
  pub fixed : (i : ℕ) → i < blocks_of c.grid → T (active_of c.slots i) → fixed_of (block_in c i) fluid ≡ fixed_of (block_in e i) fluid

-- such cases have the same books
pub books_same : {c e : Case} {fluid : ℕ} → Counted c.grid → SameCases c e fluid → SameBooks c.grid c.slots e.slots (books_of c fluid) (books_of e fluid)
unfolding books_of
books_same {c} {e} {fluid} counted same =
    record {
      active = same.active;
      brought = λ low d i h l. brought_same c e same.shape counted same.active fluid low d i l (link low d i h l);
      own = same.own;
      fixed = same.fixed;
    }
  where
    link : (low : Bool) (d i : ℕ) → d < 3 → i < blocks_of c.grid → T (live_of c.grid c.slots d i)
        → (carried_of c fluid d i ≡ carried_of e fluid d i) × (counts_of c.grid c.slots fluid d i low ≡ counts_of e.grid e.slots fluid d i low)
    link low d i h l t = (carried_same c e fluid d i (λ b. same.lateral d i b l t) (λ b. same.leakage i l (upward b)), counts_same c e fluid d i low (λ b. same.named low i l (upward b)))
      where
        upward : above ≤ d → T (live_of c.grid c.slots above i)
        upward b = let axis : d ≡ above = omega (arith, h) in subst (λ (d : ℕ). T (live_of c.grid c.slots d i)) axis t

-- and the same balance in that fluid, in every block of the grid
pub balance_of_same : {c e : Case} {fluid : ℕ} → Counted c.grid → SameCases c e fluid → (i : ℕ) → i < blocks_of c.grid → balance_of c fluid i ≡ balance_of e fluid i
unfolding balance_of
balance_of_same {c} {e} {fluid} counted same i l =
    only_same (active_of c.slots i) _ _ (λ a. balance_same (books_same counted same) i l a ∙ shaped)
    ∙ ap (λ (a : Bool). only a (balance_in e.grid (books_of e fluid) i)) (same.active i l)
  where
    shaped : balance_in c.grid (books_of e fluid) i ≡ balance_in e.grid (books_of e fluid) i
    shaped =
        let F = books_of e fluid in
        balance_by_links c.grid e.grid F F i (λ d h. refl) (λ d h. ap (λ (s : ℕ). back s (brought_of F false d) i) (stride_alike c.grid e.grid same.shape d)) refl

-- and in both fluids
pub balances_same : {c e : Case} → Counted c.grid → SameCases c e fresh → SameCases c e salt → (i : ℕ) → i < blocks_of c.grid → balances_of c i ≡ balances_of e i
balances_same counted f s i l = both_same (balance_of_same counted f i l) (balance_of_same counted s i l)

-- ---- two cases of one record, alike in their widths and in some blocks

-- the widths are alike: with those of the second case the first is a case alike
module _ (c : Case) (columns rows slots : List ℤ) (widths : Alike c (case_of c.grid columns rows c.slots)) (counted : Counted c.grid) where
  abbrev g : Grid
  g = c.grid

  -- the second case
  abbrev other : Case
  other = case_of g columns rows slots

  -- the area of a block
  pub area_alike : (i : ℕ) → i < blocks_of g → area_of c i ≡ area_of other i
  area_alike = area_same c columns rows c.slots widths counted

  -- some blocks of the grid, each the same in both cases
  module _ (Same : ℕ → Type 0) (inside : (i : ℕ) → Same i → i < blocks_of g) (block : (i : ℕ) → Same i → block_in c i ≡ block_in other i) where
    waters_alike : (i : ℕ) → Same i → waters_of g c.slots i ≡ waters_of g slots i
    waters_alike i s = waters_same g c.slots slots i (block i s)

    -- a lateral face between two of them, with those behind it among them
    pub lateral_alike : (fluid d i : ℕ) → d < above → T (next_of g d i) → Same i → Same (i + stride_of g d)
        → ((low : Bool) (p : ℕ) → behind_of g d i low ≡ Some p → Same p)
        → lateral_at c fluid d i ≡ lateral_at other fluid d i
    lateral_alike fluid d i h next low high behind =
        lateral_same c columns rows slots fluid d i
        (λ side p e. let s = behind side p e in behind_same c columns rows slots fluid d p (along_same c columns rows c.slots widths counted p (inside p s) d) (waters_alike p s))
        (face_same c columns rows c.slots widths counted i (inside i low) d (omega (arith, h)) next)
        (side_same g c.slots slots i (block i low) fluid)
        (side_same g c.slots slots (i + stride_of g d) (block (i + stride_of g d) high) fluid)

    -- leakage between two of them, and as what it counts
    pub leakage_alike : (i : ℕ) → Same i → Same (i + stride_of g above) → leakage_at c i ≡ leakage_at other i
    leakage_alike i low high = leakage_same c columns rows slots i (block i low) (block (i + stride_of g above) high) (area_alike i (inside i low))

    pub named_alike : (i : ℕ) (side : Bool) → Same i → Same (i + stride_of g above) → named_of g c.slots i side ≡ named_of g slots i side
    named_alike i side low high = named_same g c.slots slots i side (waters_alike i low) (waters_alike (i + stride_of g above) high)

-- ---- two cases alike in the numbers that they need

-- all that a live link or an active block looks at is inside the grid
module _ (c : Case) (columns rows slots : List ℤ) (alike : Alike c (case_of c.grid columns rows slots)) (counted : Counted c.grid) where
  abbrev widths : Alike c (case_of c.grid columns rows c.slots)
  widths = record { grid = refl; columns = alike.columns; rows = alike.rows; slots = λ k l. refl }

  abbrev Present : ℕ → Type 0
  Present i = i < blocks_of c.grid

  block : (i : ℕ) → Present i → block_in c i ≡ block_of slots i
  block = block_in_same c columns rows slots alike

  across : (d i : ℕ) → Present i → T (live_of c.grid c.slots d i) → Present (i + stride_of c.grid d)
  across d i l live = live_inside c.grid c.slots d i live counted l

  pub alike_cases : (fluid : ℕ) → SameCases c (case_of c.grid columns rows slots) fluid
  alike_cases fluid =
      record {
        shape = shape_of_one refl;
        active = λ i l. ap is_active (block i l);
        lateral = λ d i h l live.
            lateral_alike c columns rows slots widths counted Present (λ i l. l) block fluid d i h (live_next c.grid c.slots d i live) l (across d i l live)
            (λ low p e. behind_inside c.grid counted d i p low (across d i l live) e);
        leakage = λ i l live. leakage_alike c columns rows slots widths counted Present (λ i l. l) block i l (across above i l live);
        named = λ low i l live. named_alike c columns rows slots widths counted Present (λ i l. l) block i low l (across above i l live);
        own = λ i l a. own_same c columns rows slots fluid i (block i l) (area_alike c columns rows slots widths counted i l);
        fixed = λ i l a. ap (λ b. fixed_of b fluid) (block i l);
      }
