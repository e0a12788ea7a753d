-- A block's report, by the steps of the code. Assumes nothing.
use mathlib.Core.Bool.{Bool, ◌&&◌, cond, false, true}
use mathlib.Core.List.{List, [], ◌∷◌}
use mathlib.Core.Path.{◌∙◌, ◌≡◌, ap, refl, sym}
use Prim.Native.Nat.{◌-◌, ◌<◌, ◌≤◌, ℕ}
use native.Mathlib.Omega.{arith}
use lib.Dec.{leb, leb→le}
use lib.IntN.{ℤ}
use borrow.Author.Tests.{le-leb, ne_eqb}
use Rattle.whole.proofs.SearchLaws.{both, true_is, holds}
use Rattle.whole.specs.Inner.{Abs}
use Rattle.grid.specs.declared.Grid.{Grid}
use Rattle.grid.specs.Inner.{Termed}
use Rattle.grid.specs.Place.{blocks_of, top_of}
use Rattle.slots.specs.declared.Block.{Block}
use Rattle.slots.specs.Inner.{Ends}
use Rattle.slots.specs.Slots.{block_of, is_active}
use Rattle.slices.specs.declared.Case.{Case as Lent}
use Rattle.slices.specs.Cases.{case_in}
use Rattle.slices.specs.Refusals.{Refusal}
use Rattle.slices.specs.Inner.{Judged}
use Rattle.slices.specs.Slices.{Case, first_refusal, none, or_else, refusal, unless_refused}
use Rattle.slices.proofs.SlicesLaws.{first_goes_on, first_stays}
use Rattle.block.specs.declared.Fluids.{Fluids}
use Rattle.block.specs.declared.geometry.Levels.{Levels}
use Rattle.block.specs.Density.{interface_of}
use Rattle.block.specs.Fluids.{new_heads}
use Rattle.block.specs.Geometry.{levels_of, thicknesses_of}
use Rattle.block.specs.Inner.{Heads, Levelled, Thick, most_interface}
use Rattle.block.proofs.BlockLaws.{levels_levelled, thicknesses_thick}
use Rattle.block.proofs.DensityLaws.{interface_in}
use Rattle.block.proofs.FluidLaws.{new_heads_in}
use Rattle.wellformed.specs.Limits.{checked_of, checks_of}
use Rattle.wellformed.proofs.RoomLaws.{and_same}
use Rattle.report.specs.declared.Report.{Report}
use Rattle.report.specs.Meaning.{Named}
use Rattle.report.specs.Reports.{Answer, names_active, naming, no_report, report_answer, report_of, report_of_case, report_refusal, telling}

-- ---- which numbers name an active block

abbrev rest : Grid → List ℤ → ℕ → Bool
rest g slots number = leb number (blocks_of g) && is_active (block_of slots (number - 1))

-- it is asked of the blocks that there are
pub names_same : (g : Grid) (s t : List ℤ) → ((i : ℕ) → i < blocks_of g → block_of s i ≡ block_of t i) → (number : ℕ) → names_active g s number ≡ names_active g t number
unfolding names_active
names_same g s t blocks number =
    let most = leb number (blocks_of g) in
    and_same (leb 1 number) (leb 1 number) (rest g s number) (rest g t number) refl
    (λ a.
    and_same most most (is_active (block_of s (number - 1))) (is_active (block_of t (number - 1))) refl
    (λ b. ap is_active (blocks (number - 1) (omega (arith, leb→le 1 number a, leb→le number (blocks_of g) b)))))

-- the test as the theorems say it
pub named : (c : Case) (number : ℕ) → names_active c.grid c.slots number ≡ true → Named c number
unfolding names_active
named c number e =
    let h = both (leb 1 number) (rest c.grid c.slots number) (holds e) in
    let k = both (leb number (blocks_of c.grid)) (is_active (block_of c.slots (number - 1))) h.1 in
    (leb→le 1 number h.0, (leb→le number (blocks_of c.grid) k.0, k.1))

pub names : (c : Case) (number : ℕ) → Named c number → names_active c.grid c.slots number ≡ true
unfolding names_active
names c number h = rw (le-leb 1 number h.0, le-leb number (blocks_of c.grid) h.1.0) (true_is h.1.1)

-- it is from 1 on, and within the grid
pub named_some : (g : Grid) (slots : List ℤ) (number : ℕ) → names_active g slots number ≡ true → 1 ≤ number
unfolding names_active
named_some g slots number e = leb→le 1 number (both (leb 1 number) (rest g slots number) (holds e)).0

pub named_within : (g : Grid) (slots : List ℤ) (number : ℕ) → names_active g slots number ≡ true → number ≤ blocks_of g
unfolding names_active
named_within g slots number e =
    leb→le number (blocks_of g) (both (leb number (blocks_of g)) (is_active (block_of slots (number - 1))) (both (leb 1 number) (rest g slots number) (holds e)).1).0

-- the block that it names is inside
pub named_inside : (c : Case) (number : ℕ) → Named c number → number - 1 < blocks_of c.grid
named_inside c number h = omega (arith, h.0, h.1.0)

-- and its slots are in range
pub named_ends : (c : Case) (number : ℕ) → Judged c → names_active c.grid c.slots number ≡ true → Ends (block_of c.slots (number - 1))
named_ends c number judged e = let h = named c number e in (judged.active (number - 1) (named_inside c number h) h.1.1).ends

-- ---- what is reported is in range

module _ {own : Block} (ends : Ends own) where
  pub heads_within : {heads : Fluids} → heads ≡ new_heads own → Heads heads
  heads_within e = rw e (new_heads_in own ends)

  pub interface_within : (g : Grid) {heads : Fluids} {interface : ℤ} → Termed g → heads ≡ new_heads own → interface ≡ interface_of g heads → Abs most_interface interface
  interface_within g {heads} t h e = rw e (interface_in g heads t (heads_within h))

  module _ (g : Grid) (top : Bool) (heads : Fluids) {levels : Levels} (l : levels ≡ levels_of g own top heads) where
    pub levels_within : Levelled levels
    levels_within = rw l (levels_levelled g own top heads ends)

    pub waters_within : {waters : Fluids} → waters ≡ thicknesses_of levels → Thick waters
    waters_within e = rw e (thicknesses_thick levels levels_within)

-- ---- answers

naming_alone : (number : ℕ) (b : Bool) → cond b none (refusal 14 number) ≡ first_refusal (cond b none (refusal 14 number) ∷ [])
unfolding first_refusal or_else
naming_alone number true = refl
naming_alone number false = refl

pub naming_none : (number : ℕ) (b : Bool) → (first_refusal (cond b none (refusal 14 number) ∷ [])).number ≡ 0 → b ≡ true
unfolding first_refusal or_else
naming_none number true e = refl
naming_none number false e = absurd (omega (arith, e))

module _ (c : Case) (number : ℕ) where
  abbrev own : Report
  own = report_of c.grid (block_of c.slots (number - 1)) (top_of c.grid (number - 1))

  -- by the number alone
  pub unreported : names_active c.grid c.slots number ≡ false → telling (refusal 14 number) no_report ≡ report_of_case c number
  unfolding report_of_case
  unreported e = rw e

  -- by what it is refused with before
  pub check_refuses : (r : Refusal) → r ≡ checked_of c → (r.number ≡ 0 → ⊥) → telling r no_report ≡ report_answer c number
  unfolding report_answer
  check_refuses r e h = rw (← first_stays (checks_of c) (naming c number ∷ []) r e h, ne_eqb r.number 0 h)

  module _ (checked : (checked_of c).number ≡ 0) where
    pub refusal_is : naming c number ≡ report_refusal c number
    refusal_is = first_goes_on (checks_of c) (naming c number ∷ []) (checked_of c) refl (naming c number) checked (naming_alone number (names_active c.grid c.slots number))

    pub case_reported : report_of_case c number ≡ report_answer c number
    unfolding report_of_case report_answer
    case_reported = ap (λ r. telling r (unless_refused r own no_report)) refusal_is

-- judged step by step: what slices are refused with stays, and where they are not refused the number decides
module _ (c : Lent) (number : ℕ) where
  pub slices_refuse : (r : Refusal) → (r.number ≡ 0 → ⊥) → r ≡ checked_of (case_in c) → telling r no_report ≡ report_answer (case_in c) number
  slices_refuse r some e = check_refuses (case_in c) number r e some

  pub number_decides : (d : Lent) (x : Answer) → d ≡ c → none ≡ checked_of (case_in c) → x ≡ report_of_case (case_in d) number → x ≡ report_answer (case_in c) number
  number_decides d x same e told = rw same at told ∙ case_reported (case_in c) number (ap (λ r. r.number) (sym e))
