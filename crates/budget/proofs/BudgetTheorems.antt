-- What the tables that a client is answered say (the client's demand 3; document 01, "Balance, verdict, table"). Assumes nothing.
use mathlib.Core.Bool.{Bool, false, not, true}
use mathlib.Core.List.{List, [], ◌∷◌}
use mathlib.Core.Logic.{◌↔◌, ◌≢◌}
use mathlib.Core.Path.{◌≡◌, ap, refl}
use Prim.Native.Nat.{◌*◌, ◌<◌, ◌≤◌, suc, zero, ℕ}
use native.Mathlib.Omega.{arith}
use lib.Dec.{T, leb→le, le→leb}
use lib.IntN.{◌*ℤ◌, ◌+ℤ◌, nat_abs, negsuc, pos, ℤ}
use lib.ListN.{get_or, length}
use lib.Signed.{◌≤ℤ◌, lt_z}
use Rattle.whole.specs.Ranges.{between}
use Rattle.whole.specs.Sum.{count}
use Rattle.whole.specs.Inner.{In}
use Rattle.whole.proofs.SearchLaws.{both, holds, joint, true_is}
use Rattle.whole.proofs.WithinLaws.{within_at}
use Rattle.grid.specs.declared.Grid.{Grid}
use Rattle.grid.specs.Place.{blocks_of}
use Rattle.slots.specs.Slots.{block_of}
use Rattle.slots.proofs.SlotsLaws.{SameTo}
use Rattle.slices.specs.Slices.{Case, refusal, unless}
use Rattle.slices.specs.Meaning.{NamesFirst}
use Rattle.slices.specs.Inner.{Roomy}
use Rattle.slices.specs.Refusals.{Refusal}
use Rattle.slices.proofs.SlicesLaws.{here, holds_among, none_apart, none_together, unless_passes}
use Rattle.block.specs.Fluids.{fresh, salt}
use Rattle.wellformed.specs.Inner.{WellFormed}
use Rattle.wellformed.specs.Limits.{checks_of, lent_checks_of}
use Rattle.wellformed.specs.Links.{active_of}
use Rattle.wellformed.proofs.RoomLaws.{Alike, by_record}
use Rattle.books.specs.Waters.{Wet, dry_at, well_checks}
use Rattle.wellformed.proofs.WellformedTheorems.{lent_wellformed_exactly, wellformed_exactly}
use Rattle.books.proofs.WatersLaws.{wells_wet, wet_wells}
use Rattle.books.specs.Bookkeeping.{books_of}
use Rattle.books.specs.Own.{fixed_of}
use Rattle.balance.specs.Balance.{balance_in, balances_of}
use Rattle.balance.proofs.BalanceLaws.{balance_active, balance_in_fluid}
use Rattle.verdict.specs.Acceptance.{Accepted}
use Rattle.verdict.specs.Places.{free_at, size_of}
use Rattle.verdict.specs.Ruling.{verdict_answer}
use Rattle.verdict.proofs.VerdictTheorems.{slices_accepted_exactly}
use Rattle.zone.specs.Accounts.{Adds, Apart, Closes, NoRiver, free_in, joined}
use Rattle.zone.specs.Table.{lines_of}
use Rattle.zone.specs.Zones.{in_zone, marked_of}
use Rattle.zone.proofs.LinesLaws.{lines_same}
use Rattle.zone.proofs.ZoneTheorems.{adds, closes, conversions_cancel, edges_not_negative, error_bounded, fresh_boundary_not_positive, whole_no_edges}
use Rattle.budget.specs.Answers.{Answer}
use Rattle.budget.specs.Meaning.{TableRefused, Tells, read_of, slices, thirteen}
use Rattle.budget.specs.Answers.{case_refusal, eighteen_of, everywhere, layer_answer, layer_zone, marks_hold, marks_reach, table_checks, whole_answer, zone_answer, zone_refusal}
use Rattle.budget.proofs.AnswersLaws.{case_refused_exactly, read_lines, table_refused_exactly}
use Rattle.budget.proofs.RoomLaws.{layer_alike, whole_alike, zone_alike}

-- ---- who is answered

-- A zone's table is given exactly for a well-formed case without a dry well, with marks that reach over the grid and are 0 or 1.
pub answered_exactly : (c : Case) (marks : List ℤ)
    → ((zone_answer c marks).refusal.number ≡ 0) ↔ (WellFormed c × (Wet c.grid c.slots × (T (marks_reach c.grid marks) × T (marks_hold c.grid marks))))
unfolding zone_answer
answered_exactly c marks = (
  λ e.
      let h = none_apart (lent_checks_of c reach) (table_checks c marks) e in
      let lent = (lent_wellformed_exactly c reach).0 h.0 in
      let table = none_apart (unless 11 hold ∷ []) (well_checks c) h.1 in
      (lent.0, (wells_wet c table.1, (lent.1, holds_among 11 hold (omega arith) here table.0))),
  λ h.
      none_together (lent_checks_of c reach) (table_checks c marks) ((lent_wellformed_exactly c reach).1 (h.0, h.1.1.0))
      (none_together (unless 11 hold ∷ []) (well_checks c) (unless_passes 11 hold h.1.1.1) (wet_wells c h.1.0)),
)
  where
    reach : Bool
    reach = marks_reach c.grid marks

    hold : Bool
    hold = marks_hold c.grid marks

-- A layer's table, and the whole's, is given exactly for a well-formed case without a dry well.
case_answered : (c : Case) → ((case_refusal c).number ≡ 0) ↔ (WellFormed c × Wet c.grid c.slots)
case_answered c = (
  λ e. let h = none_apart (checks_of c) (well_checks c) e in ((wellformed_exactly c).0 h.0, wells_wet c h.1),
  λ h. none_together (checks_of c) (well_checks c) ((wellformed_exactly c).1 h.0) (wet_wells c h.1),
)

pub layer_answered_exactly : (c : Case) (layer : ℕ) → ((layer_answer c layer).refusal.number ≡ 0) ↔ (WellFormed c × Wet c.grid c.slots)
unfolding layer_answer
layer_answered_exactly c layer = case_answered c

pub whole_answered_exactly : (c : Case) → ((whole_answer c).refusal.number ≡ 0) ↔ (WellFormed c × Wet c.grid c.slots)
unfolding whole_answer
whole_answered_exactly c = case_answered c

-- Of a zone that is answered, a block is marked exactly where its mark is 1.
pub marked_is_one : (g : Grid) (marks : List ℤ) → T (marks_hold g marks) → (i : ℕ) → i < blocks_of g → (marked_of marks i ≡ true) ↔ (get_or marks i (pos 0) ≡ pos 1)
unfolding marked_of
marked_is_one g marks t i l = go (get_or marks i (pos 0)) (within_at (between (pos 0) (pos 1)) marks (blocks_of g) t i l)
  where
    go : (mark : ℤ) → In (pos 0) (pos 1) mark → (lt_z (pos 0) mark ≡ true) ↔ (mark ≡ pos 1)
    go (pos zero) h = (λ e. absurd (holds {b = false} e), λ e. let same : ◌≡◌ {A = ℕ} 0 1 = ap nat_abs e in absurd (omega (arith, same)))
    go (pos (suc zero)) h = (λ e. refl, λ e. refl)
    go (pos (suc (suc n))) h = absurd (omega (arith, leb→le (suc (suc n)) 1 h.high.le))
    go (negsuc n) h = absurd h.low.le

-- ---- with which number and block a table is refused

-- A number is given, and a block named, exactly where a row of `TableRefused` says so: of a zone's table,
pub zone_refused_exactly : (c : Case) (marks : List ℤ) (number block : ℕ) → number ≢ 0
    → ((zone_answer c marks).refusal ≡ refusal number block) ↔ TableRefused c (marks_reach c.grid marks) (marks_hold c.grid marks) number block
unfolding zone_answer
zone_refused_exactly c marks = table_refused_exactly c (marks_reach c.grid marks) (marks_hold c.grid marks)

-- of a layer's,
pub layer_refused_exactly : (c : Case) (layer number block : ℕ) → number ≢ 0 → ((layer_answer c layer).refusal ≡ refusal number block) ↔ TableRefused c true true number block
unfolding layer_answer
layer_refused_exactly c layer = case_refused_exactly c

-- and of the whole's.
pub whole_refused_exactly : (c : Case) (number block : ℕ) → number ≢ 0 → ((whole_answer c).refusal ≡ refusal number block) ↔ TableRefused c true true number block
unfolding whole_answer
whole_refused_exactly c = case_refused_exactly c

-- So 13 names the first block with a dry well: of a zone's table,
module _ (c : Case) where
  abbrev dry : ℕ → Bool
  dry = dry_at c.grid c.slots

  thirteen_names : (reaches hold : Bool) (r : Refusal) → ((number block : ℕ) → number ≢ 0 → (r ≡ refusal number block) ↔ TableRefused c reaches hold number block)
      → r.number ≡ 13 → NamesFirst (blocks_of c.grid) dry r.block
  thirteen_names reaches hold r exactly e = go ((exactly 13 r.block (omega arith)).0 (ap (λ (n : ℕ). refusal n r.block) e))
    where
      go : {block : ℕ} → TableRefused c reaches hold 13 block → NamesFirst (blocks_of c.grid) dry block
      go (slices row) = elim row [ ]
      go (thirteen formed lent held names) = names

  pub zone_names_first : (marks : List ℤ) → let r = (zone_answer c marks).refusal in r.number ≡ 13 → NamesFirst (blocks_of c.grid) dry r.block
  zone_names_first marks = thirteen_names (marks_reach c.grid marks) (marks_hold c.grid marks) (zone_answer c marks).refusal (zone_refused_exactly c marks)

  -- of a layer's,
  pub layer_names_first : (layer : ℕ) → let r = (layer_answer c layer).refusal in r.number ≡ 13 → NamesFirst (blocks_of c.grid) dry r.block
  layer_names_first layer = thirteen_names true true (layer_answer c layer).refusal (layer_refused_exactly c layer)

  -- and of the whole's.
  pub whole_names_first : let r = (whole_answer c).refusal in r.number ≡ 13 → NamesFirst (blocks_of c.grid) dry r.block
  whole_names_first = thirteen_names true true (whole_answer c).refusal (whole_refused_exactly c)

-- ---- what is answered

-- What is answered without a refusal is the table of the marked zone,
pub zone_told : (c : Case) (marks : List ℤ) → (zone_answer c marks).refusal.number ≡ 0 → Tells c (marked_of marks) (zone_answer c marks)
unfolding zone_answer eighteen_of
zone_told c marks e =
    let h = (answered_exactly c marks).0 e in
    record { formed = h.0; wet = h.1.0; lines = read_lines (zone_refusal c marks) (lines_of c (marked_of marks)) e }

-- of the layer,
pub layer_told : (c : Case) (layer : ℕ) → (layer_answer c layer).refusal.number ≡ 0 → Tells c (layer_zone c.grid layer) (layer_answer c layer)
unfolding layer_answer eighteen_of
layer_told c layer e =
    let h = (case_answered c).0 e in
    record { formed = h.0; wet = h.1; lines = read_lines (case_refusal c) (lines_of c (layer_zone c.grid layer)) e }

-- and of the whole.
pub whole_told : (c : Case) → (whole_answer c).refusal.number ≡ 0 → Tells c everywhere (whole_answer c)
unfolding whole_answer eighteen_of
whole_told c e =
    let h = (case_answered c).0 e in
    record { formed = h.0; wet = h.1; lines = read_lines (case_refusal c) (lines_of c everywhere) e }

-- ---- every table that is answered

-- Every table closes: "storage + error = in - out + converted + wells + recharge + boundary + supply"
pub table_closes : (c : Case) (z : ℕ → Bool) (a : Answer) → Tells c z a → (fluid : ℕ) → fluid < 2 → Closes (read_of a fluid)
table_closes c z a t fluid l = rw (t.lines fluid l) (closes c t.formed.judged.counted z fluid)

-- The tables of two zones with no block in common add to that of the joined zone: "storage, wells, recharge, boundary, supply and error of the joined
-- zone are the sums of the two; edge in less edge out plus converted also adds exactly".
pub tables_add : (c : Case) (z w v : ℕ → Bool) (a b both : Answer) → Tells c z a → Tells c w b → Tells c v both
    → Apart c.grid z w → ((i : ℕ) → i < blocks_of c.grid → v i ≡ joined z w i)
    → (fluid : ℕ) → fluid < 2 → Adds (read_of a fluid) (read_of b fluid) (read_of both fluid)
tables_add c z w v a b both t u s apart alike fluid l =
    let counted = t.formed.judged.counted in
    rw (t.lines fluid l, u.lines fluid l, s.lines fluid l, lines_same c counted v (joined z w) alike fluid) (adds c counted z w apart fluid)

-- Edge in and edge out are never negative.
pub edges_at_least_zero : (c : Case) (z : ℕ → Bool) (a : Answer) → Tells c z a → (fluid : ℕ) → fluid < 2 → (pos 0 ≤ℤ (read_of a fluid).edge_in) × (pos 0 ≤ℤ (read_of a fluid).edge_out)
edges_at_least_zero c z a t fluid l = rw (t.lines fluid l) (edges_not_negative c.grid c.slots (books_of c fluid) z)

-- W-201 of document 02: in a zone without rivers the fresh boundary line is never above 0. No fresh water comes out of the sea.
pub sea_brings_no_fresh : (c : Case) (z : ℕ → Bool) (a : Answer) → Tells c z a → NoRiver c z → (read_of a fresh).boundary ≤ℤ pos 0
sea_brings_no_fresh c z a t none = rw (t.lines fresh (omega arith)) (fresh_boundary_not_positive c z none)

-- What one fluid gains by conversion the other loses.
pub converted_cancels : (c : Case) (z : ℕ → Bool) (a : Answer) → Tells c z a → (read_of a fresh).converted +ℤ (read_of a salt).converted ≡ pos 0
converted_cancels c z a t = rw (t.lines fresh (omega arith), t.lines salt (omega arith)) (conversions_cancel c z)

-- Nothing crosses an edge of the whole.
pub whole_has_no_edges : (c : Case) → (whole_answer c).refusal.number ≡ 0
    → (fluid : ℕ) → fluid < 2 → ((read_of (whole_answer c) fluid).edge_in ≡ pos 0) × ((read_of (whole_answer c) fluid).edge_out ≡ pos 0)
whole_has_no_edges c e fluid l = rw ((whole_told c e).lines fluid l) (whole_no_edges c.grid c.slots (books_of c fluid))

-- ---- error

-- between numbers without sign and a tolerance that is not negative
size_at_most : (z t : ℤ) → size_of z ≤ℤ t → nat_abs z ≤ nat_abs t
size_at_most z (pos t) h = leb→le (nat_abs z) t h.le
size_at_most z (negsuc t) h = absurd h.le

at_most_size : (z t : ℤ) (n : ℕ) → pos 0 ≤ℤ t → nat_abs z ≤ nat_abs t * n → size_of z ≤ℤ (t *ℤ pos n)
at_most_size z (pos t) n o h = record { le = le→leb (nat_abs z) (t * n) h }
at_most_size z (negsuc t) n o h = absurd o.le

-- where heads are accepted, a free balance of a zone is within the tolerance
free_within : (c : Case) → Accepted c.grid c.slots (balances_of c) → (z : ℕ → Bool) (fluid : ℕ) → fluid < 2
    → (i : ℕ) → i < blocks_of c.grid → T (free_in c.slots (books_of c fluid) z i) → nat_abs (balance_in c.grid (books_of c fluid) i) ≤ nat_abs c.grid.tolerance
unfolding free_in in_zone free_at books_of
free_within c accepted z fluid l i k free =
    let fixed = fixed_of (block_of c.slots i) fluid in
    let parts = both (in_zone c.slots z i) (not fixed) free in
    let active = (both (z i) (active_of c.slots i) parts.0).1 in
    let within = accepted.within i fluid k l (joint (active_of c.slots i) (not fixed) active parts.1) in
    size_at_most (balance_in c.grid (books_of c fluid) i) c.grid.tolerance
    (rw (← balance_active c fluid i (true_is active), ← balance_in_fluid c fluid i l) within)

-- Where heads are accepted, the error is at most the tolerance times the count of the zone's active blocks that are free in that fluid.
pub error_at_most : (c : Case) (z : ℕ → Bool) (a : Answer) → Tells c z a → (verdict_answer c).verdict.code ≡ 0
    → (fluid : ℕ) → fluid < 2 → size_of (read_of a fluid).error ≤ℤ (c.grid.tolerance *ℤ pos (count (blocks_of c.grid) (free_in c.slots (books_of c fluid) z)))
error_at_most c z a t v fluid l =
    let accepted = ((slices_accepted_exactly c).0 v).1 in
    rw (t.lines fluid l)
    (at_most_size (lines_of c z fluid).error c.grid.tolerance _ t.formed.judged.termed.tolerance.low
    (error_bounded c.grid c.slots (books_of c fluid) z (nat_abs c.grid.tolerance) (free_within c accepted z fluid l)))

-- ---- room

-- "Room beyond what is needed is not touched.", nor is it read: a zone's table is told by the numbers that the record needs and by a mark for each block.
pub zone_room_unread : (c d : Case) (marks others : List ℤ) → Roomy c → Roomy d → Alike c d → blocks_of c.grid ≤ length marks → blocks_of c.grid ≤ length others
    → SameTo (blocks_of c.grid) marks others → zone_answer c marks ≡ zone_answer d others
zone_room_unread c d marks others m n a reach others-reach same =
    by_record (λ d. Alike c d → Roomy d → zone_answer c marks ≡ zone_answer d others) d a.grid
    (λ a n. zone_alike c d.columns d.rows d.slots a m n marks others (le→leb (blocks_of c.grid) (length marks) reach) (le→leb (blocks_of c.grid) (length others) others-reach) same) a n

-- "Room beyond what is needed is not touched.", nor is it read: a layer's table is told by the numbers that the record needs.
pub layer_room_unread : (c d : Case) (layer : ℕ) → Roomy c → Roomy d → Alike c d → layer_answer c layer ≡ layer_answer d layer
layer_room_unread c d layer m n a =
    by_record (λ d. Alike c d → Roomy d → layer_answer c layer ≡ layer_answer d layer) d a.grid (λ a n. layer_alike c d.columns d.rows d.slots a m n layer) a n

-- "Room beyond what is needed is not touched.", nor is it read: the table of the whole is told by the numbers that the record needs.
pub whole_room_unread : (c d : Case) → Roomy c → Roomy d → Alike c d → whole_answer c ≡ whole_answer d
whole_room_unread c d m n a =
    by_record (λ d. Alike c d → Roomy d → whole_answer c ≡ whole_answer d) d a.grid (λ a n. whole_alike c d.columns d.rows d.slots a m n) a n
