use Rattle.std.proofs.Common.{◌≡◌, ap₂, pos, ℤ, ◌+ℤ◌, ◌*ℤ◌, to_z, of_z, w64}
use lib.Signed.{lt_z}
use Rattle.whole.specs.Inner.{In}
use Rattle.whole.proofs.RangeLaws.{exact, fits, ranges}
use Rattle.slots.specs.Units.{most_k, most_thickness}
use Rattle.block.specs.Units.{ticks}
use Rattle.flow.specs.declared.lateral.Face.{Face}
use Rattle.flow.specs.Inner.{FaceIn, over_conductance}
use Rattle.wellformed.specs.Inner.{far_within}
use Rattle.wellformed.proofs.limits.far_within.Goals as goal

pub overflow_mul-result-3 : goal.overflow_mul-result-3
overflow_mul-result-3 c = fits (search ranges depth 30) tt

-- a number as the machine holds it
abbrev m : ℤ → ℤ
m z = to_z w64 (of_z w64 z)

module _ (f : Face) (k b : ℤ) (h : FaceIn f) (p : In (pos 0) (pos most_k) k) (q : In (pos 0) (pos most_thickness) b) where
  flow : m (m (m (pos 4 *ℤ m k) *ℤ m b) *ℤ m f.across) ≡ pos 4 *ℤ k *ℤ b *ℤ f.across
  flow = exact (search ranges depth 30)

  most : m (pos over_conductance *ℤ m (m (m f.low +ℤ m f.high) *ℤ pos ticks)) ≡ pos over_conductance *ℤ ((f.low +ℤ f.high) *ℤ pos ticks)
  most = exact (search ranges depth 30)

pub returns : goal.returns
unfolding far_within
returns c =
    let s = c in
    ap₂ lt_z (flow s.args.face s.args.k s.args.thickness s.requires.face_in s.requires.fact s.requires.fact_2) (most s.args.face s.args.k s.args.thickness s.requires.face_in s.requires.fact s.requires.fact_2)
