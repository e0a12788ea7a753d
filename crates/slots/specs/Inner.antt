-- What inner functions require of a block's slots. No answer is said with these: nothing here has to be believed.
use Rattle.std.specs.Prelude.{Bool, neg_ℤ, pos, ◌≤ℤ◌, T}
use Rattle.whole.specs.Inner.{Abs, In}
use Rattle.slots.specs.declared.Block.{Block}
use Rattle.slots.specs.Units.{most_k, most_kind, most_leakance, most_level, most_porosity, most_pumpage, most_recharge, most_screen, most_thickness}
use Rattle.slots.specs.Rules.{rules_hold}

-- every slot within its ends, slot by slot: what later parts require
pub record Ends (b : Block) : Type 0 where
  pub k : In (pos 0) (pos most_k) b.k
  pub base : Abs most_level b.base
  pub thickness : In (pos 1) (pos most_thickness) b.thickness
  pub porosity : In (pos 1) (pos most_porosity) b.porosity
  pub leakance : In (pos 0) (pos most_leakance) b.leakance
  pub recharge : In (pos 0) (pos most_recharge) b.recharge
  pub pumpage : Abs most_pumpage b.pumpage
  pub screen_bottom : In (neg_ℤ (pos most_level)) (pos most_screen) b.screen_bottom
  pub screen_top : In (neg_ℤ (pos most_level)) (pos most_screen) b.screen_top
  pub kind : In (pos 0) (pos most_kind) b.kind
  pub level : Abs most_level b.level
  pub boundary_leakance : In (pos 0) (pos most_leakance) b.boundary_leakance
  pub old_fresh : Abs most_level b.old_fresh
  pub old_salt : Abs most_level b.old_salt
  pub new_fresh : Abs most_level b.new_fresh
  pub new_salt : Abs most_level b.new_salt

-- an active block whose slots stand, in the top layer or below it: what later parts require
pub record Active (b : Block) (top : Bool) : Type 0 where
  pub ends : Ends b
  pub k_some : pos 1 ≤ℤ b.k
  pub rules : T (rules_hold b top)
