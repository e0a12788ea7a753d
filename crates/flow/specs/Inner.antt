-- How large the numbers of a flow get, and what inner functions require of a face and of a leakage pair. No answer is said with these: nothing here has to
-- be believed.
use Rattle.std.specs.Prelude.{◌+◌, ℕ, pos, ℤ}
use Rattle.whole.specs.Inner.{Abs, In}
use Rattle.block.specs.Inner.{Heads, Thick, most_fluid_k}
use Rattle.slots.specs.Units.{most_level, most_thickness}
use Rattle.slices.specs.Slices.{most_width}
use Rattle.flow.specs.declared.lateral.Behind.{Behind}
use Rattle.flow.specs.declared.lateral.Face.{Face}
use Rattle.flow.specs.declared.lateral.Side.{Side}
use Rattle.flow.specs.declared.leakage.LeakageSide.{LeakageSide}
use Rattle.flow.specs.Litres.{most_conductance}

-- the least conductance that exceeds it
abbrev pub over_conductance : ℕ
over_conductance = most_conductance + 1

-- the greatest head difference, in ticks: 5 · 4,194,304, of a fresh head and a fresh equivalent at δ 1
abbrev pub most_difference : ℕ
most_difference = 20971520

-- the greatest leakance, 10⁻⁶/day, and the greatest recharge, µm/day
abbrev pub most_rate : ℕ
most_rate = 1000000

-- what the greatest rate comes to over the greatest area, a conductance or litres a day: 1,000,000 · 4,096² / 1,000
abbrev pub most_over_area : ℕ
most_over_area = 16777216000

-- the greatest flow without sign, litres a day: 268,435,456 · 20,971,520 / 4,096
abbrev pub most_flow : ℕ
most_flow = 1374389534720

-- a column or row width, metres
abbrev pub Width : ℤ → Type 0
Width z = In (pos 1) (pos most_width) z

-- the widths of a face
pub record FaceIn (f : Face) : Type 0 where
  pub low : Width f.low
  pub high : Width f.high
  pub across : Width f.across

-- a side of a face: K in mm/day, thickness and head in ticks
pub record SideIn (s : Side) : Type 0 where
  pub k : In (pos 1) (pos most_fluid_k) s.k
  pub thickness : In (pos 0) (pos most_thickness) s.thickness
  pub head : Abs most_level s.head

-- the block behind a tip; its width and thickness are 0 where there is none
pub record BehindIn (p : Behind) : Type 0 where
  pub width : In (pos 0) (pos most_width) p.width
  pub thickness : In (pos 0) (pos most_thickness) p.thickness

-- what is required of a block that leaks
pub record LeakageSideIn (w : LeakageSide) : Type 0 where
  pub heads : Heads w.heads
  pub thickness : Thick w.thickness
