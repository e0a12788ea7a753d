-- How large the numbers of a block get, and what inner functions require of them. No answer is said with these: nothing here has to be believed.
use Rattle.std.specs.Prelude.{ℕ, ◌+ℤ◌, ◌-ℤ◌, neg_ℤ, pos, ℤ}
use Rattle.whole.specs.Inner.{In}
use Rattle.slots.specs.Units.{most_level, most_screen, most_thickness}
use Rattle.block.specs.declared.Fluids.{Fluids}
use Rattle.block.specs.declared.geometry.Levels.{Levels}

-- m²: the widths of a column and of a row are at most 4,096 m each
abbrev pub most_area : ℕ
most_area = 16777216

-- a level of an aquifer, in ticks: from the lowest base to the highest aquifer top
abbrev pub Level : ℤ → Type 0
Level z = In (neg_ℤ (pos most_level)) (pos most_screen) z

-- ζ without sign, in ticks, with room
abbrev pub most_interface : ℕ
most_interface = 2147483648

-- salt K, mm/day: twice the greatest K, at δ 1
abbrev pub most_fluid_k : ℕ
most_fluid_k = 2000000

-- a fresh equivalent without sign, in ticks: 4 · 4,194,304, at δ 1
abbrev pub most_equivalent : ℕ
most_equivalent = 16777216

-- a volume in litres, and a storage rate without sign in litres a day: 1,000 · 4,096² · 4,194,304 / 4,096
abbrev pub most_volume : ℕ
most_volume = 17179869184000

-- both numbers in one range: what later parts require
pub record EachIn (lo hi : ℤ) (f : Fluids) : Type 0 where
  pub of_fresh : In lo hi f.fresh
  pub of_salt : In lo hi f.salt

-- heads and thicknesses, in ticks
abbrev pub Heads : Fluids → Type 0
Heads f = EachIn (neg_ℤ (pos most_level)) (pos most_level) f

abbrev pub Thick : Fluids → Type 0
Thick f = EachIn (pos 0) (pos most_thickness) f

-- the same levels, of a block on its base, from its thicknesses: base, then salt water, then fresh
unfoldable pub levels_on : ℤ → Fluids → Levels
levels_on base waters = record { base = base; interface = base +ℤ waters.salt; top = base +ℤ waters.salt +ℤ waters.fresh }

-- the levels of a block, in their order: what later parts require
pub record Levelled (l : Levels) : Type 0 where
  pub base : Level l.base
  pub interface : Level l.interface
  pub top : Level l.top
  pub of_fresh : In (pos 0) (pos most_thickness) (l.top -ℤ l.interface)
  pub of_salt : In (pos 0) (pos most_thickness) (l.interface -ℤ l.base)
