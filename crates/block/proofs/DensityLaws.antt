-- Bounds of the four rules that read what the waters weigh. Callers cite these and open no rule. Assumes nothing.
use mathlib.Core.Path.{◌≡◌, subst, sym}
use native.Mathlib.Omega.{arith}
use lib.IntN.{◌*ℤ◌, ◌+ℤ◌, ◌-ℤ◌, neg_ℤ, pos, ℤ}
use lib.Signed.{◌≤ℤ◌, le_z_yes}
use Rattle.whole.specs.Inner.{Abs}
use Rattle.whole.proofs.DivisionLaws.{floor-≤, floor-≥}
use Rattle.whole.proofs.LinearLaws.{#, from1, from2, from3, from4, signed}
use Rattle.whole.proofs.OrderLaws.{mul_mono, ≤ℤ_trans}
use Rattle.grid.specs.declared.Grid.{Grid}
use Rattle.grid.specs.declared.weights.Weights.{Weights}
use Rattle.grid.specs.Inner.{Termed, Weighed}
use Rattle.grid.specs.Weights.{weights_of}
use Rattle.slots.specs.Units.{most_level, most_screen}
use Rattle.block.specs.declared.Fluids.{Fluids}
use Rattle.block.specs.Density.{fresh_equivalent_by, fresh_equivalent_of, interface_by, interface_of, salt_k_by, salt_k_of, sea_head_by, sea_head_of}
use Rattle.block.specs.Inner.{Heads, Level, most_equivalent, most_interface}

-- ---- over a pair of weights
module _ (w : Weights) (t : Weighed w) where
  -- neither weight is below zero, nor is their difference
  fresh_least : pos 0 ≤ℤ w.fresh
  fresh_least = ≤ℤ_trans (le_z_yes tt) t.fresh.low

  salt_least : pos 0 ≤ℤ w.salt
  salt_least = ≤ℤ_trans (le_z_yes tt) t.salt.low

  apart_least : pos 0 ≤ℤ (w.salt -ℤ w.fresh)
  apart_least = ≤ℤ_trans (le_z_yes tt) t.apart

  -- |ζ| is at most 405 · 4,194,304 ticks, which is below 2³¹
  interface_by_in : (h : Fluids) → Heads h → Abs most_interface (interface_by w h)
  interface_by_in h k = record {
    low =
        floor-≥ _ (w.salt -ℤ w.fresh) (neg_ℤ (pos most_interface)) t.apart
        (below w.salt w.fresh h.salt h.fresh (mul_mono w.salt (neg_ℤ (pos most_level)) h.salt salt_least k.of_salt.low) (mul_mono w.fresh h.fresh (pos most_level) fresh_least k.of_fresh.high) t.spread t.apart);
    high =
        floor-≤ _ (w.salt -ℤ w.fresh) (pos most_interface) t.apart
        (above w.salt w.fresh h.salt h.fresh (mul_mono w.salt h.salt (pos most_level) salt_least k.of_salt.high) (mul_mono w.fresh (neg_ℤ (pos most_level)) h.fresh fresh_least k.of_fresh.low) t.spread t.apart);
  }
    where
      below : (s f a b : ℤ) → (s *ℤ neg_ℤ (pos most_level)) ≤ℤ (s *ℤ a) → (f *ℤ b) ≤ℤ (f *ℤ pos most_level) → (s +ℤ f) ≤ℤ (pos 405 *ℤ (s -ℤ f)) → pos 1 ≤ℤ (s -ℤ f) → ((s -ℤ f) *ℤ neg_ℤ (pos most_interface)) ≤ℤ (s *ℤ a -ℤ f *ℤ b)
      below s f a b p q r d = from4 p q r d (search (signed, # s, # f, # a, # b) depth 40) (omega arith)

      above : (s f a b : ℤ) → (s *ℤ a) ≤ℤ (s *ℤ pos most_level) → (f *ℤ neg_ℤ (pos most_level)) ≤ℤ (f *ℤ b) → (s +ℤ f) ≤ℤ (pos 405 *ℤ (s -ℤ f)) → pos 1 ≤ℤ (s -ℤ f) → (s *ℤ a -ℤ f *ℤ b) ≤ℤ (pos most_interface *ℤ (s -ℤ f))
      above s f a b p q r d = from4 p q r d (search (signed, # s, # f, # a, # b) depth 40) (omega arith)

  -- K ≤ salt K ≤ 2K
  salt_k_by_most : (k : ℤ) → pos 0 ≤ℤ k → salt_k_by w k ≤ℤ (pos 2 *ℤ k)
  salt_k_by_most k h = floor-≤ _ w.fresh (pos 2 *ℤ k) t.fresh.low (go k w.salt w.fresh (mul_mono k w.salt (pos 2 *ℤ w.fresh) h t.twice))
    where
      go : (k s f : ℤ) → (k *ℤ s) ≤ℤ (k *ℤ (pos 2 *ℤ f)) → (k *ℤ s) ≤ℤ (pos 2 *ℤ k *ℤ f)
      go k s f h = from1 h (search (signed, # k, # s, # f) depth 30) (omega arith)

  salt_k_by_least : (k : ℤ) → pos 0 ≤ℤ k → k ≤ℤ salt_k_by w k
  salt_k_by_least k h = floor-≥ _ w.fresh k t.fresh.low (go k w.salt w.fresh (mul_mono k (pos 0) (w.salt -ℤ w.fresh) h apart_least))
    where
      go : (k s f : ℤ) → (k *ℤ pos 0) ≤ℤ (k *ℤ (s -ℤ f)) → (f *ℤ k) ≤ℤ (k *ℤ s)
      go k s f h = from1 h (search (signed, # k, # s, # f) depth 30) (omega arith)

  -- a fresh equivalent is at most 4 · 4,194,304 ticks from 0
  equivalent_by_in : (s z : ℤ) → Abs most_level s → Level z → Abs most_equivalent (fresh_equivalent_by w s z)
  equivalent_by_in s z k l = record {
    low =
        floor-≥ _ w.fresh (neg_ℤ (pos most_equivalent)) t.fresh.low
        (below w.salt w.fresh s z (mul_mono w.salt (neg_ℤ (pos most_level)) s salt_least k.low) (mul_mono (w.salt -ℤ w.fresh) z (pos most_screen) apart_least l.high) t.twice);
    high =
        floor-≤ _ w.fresh (pos most_equivalent) t.fresh.low
        (above w.salt w.fresh s z (mul_mono w.salt s (pos most_level) salt_least k.high) (mul_mono (w.salt -ℤ w.fresh) (neg_ℤ (pos most_level)) z apart_least l.low) t.twice t.fresh.low);
  }
    where
      below : (a f s z : ℤ) → (a *ℤ neg_ℤ (pos most_level)) ≤ℤ (a *ℤ s) → ((a -ℤ f) *ℤ z) ≤ℤ ((a -ℤ f) *ℤ pos most_screen) → a ≤ℤ (pos 2 *ℤ f) → (f *ℤ neg_ℤ (pos most_equivalent)) ≤ℤ (a *ℤ s -ℤ (a -ℤ f) *ℤ z)
      below a f s z p q r = from3 p q r (search (signed, # a, # f, # s, # z) depth 40) (omega arith)

      above : (a f s z : ℤ) → (a *ℤ s) ≤ℤ (a *ℤ pos most_level) → ((a -ℤ f) *ℤ neg_ℤ (pos most_level)) ≤ℤ ((a -ℤ f) *ℤ z) → a ≤ℤ (pos 2 *ℤ f) → pos 1 ≤ℤ f → (a *ℤ s -ℤ (a -ℤ f) *ℤ z) ≤ℤ (pos most_equivalent *ℤ f)
      above a f s z p q r l = from4 p q r l (search (signed, # a, # f, # s, # z) depth 40) (omega arith)

  -- a sea's head is no further from 0 than its floor may be
  sea_head_by_in : (z : ℤ) → Abs most_level z → Abs most_level (sea_head_by w z)
  sea_head_by_in z k = record {
    low = floor-≥ _ w.fresh (neg_ℤ (pos most_level)) t.fresh.low (below w.salt w.fresh z (mul_mono (w.salt -ℤ w.fresh) z (pos most_level) apart_least k.high) t.twice);
    high = floor-≤ _ w.fresh (pos most_level) t.fresh.low (above w.salt w.fresh z (mul_mono (w.salt -ℤ w.fresh) (neg_ℤ (pos most_level)) z apart_least k.low) t.twice);
  }
    where
      below : (a f z : ℤ) → ((a -ℤ f) *ℤ z) ≤ℤ ((a -ℤ f) *ℤ pos most_level) → a ≤ℤ (pos 2 *ℤ f) → (f *ℤ neg_ℤ (pos most_level)) ≤ℤ (neg_ℤ z *ℤ (a -ℤ f))
      below a f z p r = from2 p r (search (signed, # a, # f, # z) depth 40) (omega arith)

      above : (a f z : ℤ) → ((a -ℤ f) *ℤ neg_ℤ (pos most_level)) ≤ℤ ((a -ℤ f) *ℤ z) → a ≤ℤ (pos 2 *ℤ f) → (neg_ℤ z *ℤ (a -ℤ f)) ≤ℤ (pos most_level *ℤ f)
      above a f z p r = from2 p r (search (signed, # a, # f, # z) depth 40) (omega arith)

-- ---- of a case
-- the pair that `weights_of` hands out
pub handed : {g : Grid} {w : Weights} → Termed g → w ≡ weights_of g → Weighed w
handed t e = subst Weighed (sym e) t.weighed

pub interface_in : (g : Grid) (h : Fluids) → Termed g → Heads h → Abs most_interface (interface_of g h)
unfolding interface_of
interface_in g h t = interface_by_in (weights_of g) t.weighed h

pub salt_k_most : (g : Grid) (k : ℤ) → Termed g → pos 0 ≤ℤ k → salt_k_of g k ≤ℤ (pos 2 *ℤ k)
unfolding salt_k_of
salt_k_most g k t = salt_k_by_most (weights_of g) t.weighed k

pub salt_k_least : (g : Grid) (k : ℤ) → Termed g → pos 0 ≤ℤ k → k ≤ℤ salt_k_of g k
unfolding salt_k_of
salt_k_least g k t = salt_k_by_least (weights_of g) t.weighed k

pub equivalent_in : (g : Grid) (s z : ℤ) → Termed g → Abs most_level s → Level z → Abs most_equivalent (fresh_equivalent_of g s z)
unfolding fresh_equivalent_of
equivalent_in g s z t = equivalent_by_in (weights_of g) t.weighed s z

pub sea_head_in : (g : Grid) (z : ℤ) → Termed g → Abs most_level z → Abs most_level (sea_head_of g z)
unfolding sea_head_of
sea_head_in g z t = sea_head_by_in (weights_of g) t.weighed z
