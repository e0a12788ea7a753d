-- The four rules that read what the waters weigh (document 01, "One block", "A lateral face", "Leakage, river and sea"; document 02, W-209: "State each rule
-- once, over a pair of weights."). No other rule reads δ or the weights; their ranges are judged in grid (Judging) and, of a file, in fields (Fields). Heads and
-- levels are in ticks, K is in mm/day.
use Rattle.std.specs.Prelude.{◌*ℤ◌, ◌-ℤ◌, neg_ℤ, ℤ}
use Rattle.whole.specs.Whole.{floor_of}
use Rattle.grid.specs.declared.Grid.{Grid}
use Rattle.grid.specs.declared.weights.Weights.{Weights}
use Rattle.grid.specs.Weights.{weights_of}
use Rattle.block.specs.declared.Fluids.{Fluids}

-- "Then ζ is floor((salt·Φs - fresh·Φf)/(salt - fresh))"; document 01: "ζ = (1+δ)Φs - δΦf"
abbrev pub interface_by : Weights → Fluids → ℤ
interface_by w h = floor_of (w.salt *ℤ h.salt -ℤ w.fresh *ℤ h.fresh) (w.salt -ℤ w.fresh)

-- "the salt K is floor(K·salt/fresh)"; document 01: "K for salt is floor(K(δ+1)/δ)."
abbrev pub salt_k_by : Weights → ℤ → ℤ
salt_k_by w k = floor_of (k *ℤ w.salt) w.fresh

-- "the fresh equivalent is floor((salt·Φs - (salt - fresh)·z)/fresh)"; document 01: "The fresh equivalent of a salt head at level z is floor(((δ+1)Φs - z)/δ)."
abbrev pub fresh_equivalent_by : Weights → ℤ → ℤ → ℤ
fresh_equivalent_by w head z = floor_of (w.salt *ℤ head -ℤ (w.salt -ℤ w.fresh) *ℤ z) w.fresh

-- "the sea's head is its depth times (salt - fresh), divided by fresh, with floor"; document 01: "for a sea it is the depth (minus the sea floor's level) divided
-- by δ, with floor"
abbrev pub sea_head_by : Weights → ℤ → ℤ
sea_head_by w level = floor_of (neg_ℤ level *ℤ (w.salt -ℤ w.fresh)) w.fresh

-- each rule, over the pair of a case
unfoldable pub interface_of : Grid → Fluids → ℤ
interface_of g h = interface_by (weights_of g) h

unfoldable pub salt_k_of : Grid → ℤ → ℤ
salt_k_of g k = salt_k_by (weights_of g) k

unfoldable pub fresh_equivalent_of : Grid → ℤ → ℤ → ℤ
fresh_equivalent_of g head z = fresh_equivalent_by (weights_of g) head z

unfoldable pub sea_head_of : Grid → ℤ → ℤ
sea_head_of g level = sea_head_by (weights_of g) level
