-- Laws of runs of numbers: a run's turns, and numbers over the front of a slice. Assumes nothing.
use mathlib.Core.List.{List, [], ◌++◌, ◌∷◌}
use mathlib.Core.Path.{◌≡◌, ap, refl}
use Prim.Native.Nat.{◌-◌, ◌<◌, ◌≤◌, suc, zero, ℕ}
use native.Mathlib.Omega.{arith}
use lib.IntN.{ℤ}
use Rattle.slices.specs.Refusals.{Refusal}
use Rattle.fields.specs.declared.Part.{Part}
use Rattle.fields.specs.Fields.{Got, Value, field_at}
use Rattle.fields.specs.Runs.{Done, Refused, fill_from, fill_of, onward}
use Rattle.fields.specs.Fields as got

module _ (part : Part) (file : List ℕ) where
  -- a run from a place
  pub fill_here : (at total : ℕ) → fill_of (Done at) part file total ≡ fill_from part file total at []
  unfolding fill_of
  fill_here at total = refl

  -- one that goes on from a run that was refused
  pub fill_ended : (r : Refusal) (total : ℕ) → fill_of (Refused r) part file total ≡ record { run = Refused r; values = [] }
  unfolding fill_of
  fill_ended r total = refl

  pub fill_none : (left at : ℕ) (done : List ℤ) → left ≤ 0 → fill_from part file left at done ≡ record { run = Done at; values = done }
  unfolding fill_from
  fill_none zero at done h = refl
  fill_none (suc left) at done h = absurd (omega arith)

  pub fill_value : (left at : ℕ) (done : List ℤ) (v : ℤ) (next : ℕ) → 0 < left → field_at part file at done ≡ Value v next →
      fill_from part file left at done ≡ fill_from part file (left - 1) next (done ++ (v ∷ []))
  unfolding fill_from
  fill_value zero at done v next h e = absurd (omega arith)
  fill_value (suc left) at done v next h e =
      let p : suc left - 1 ≡ left = omega arith in
      rw p (ap (λ (g : Got). onward g done (λ v next. fill_from part file left next (done ++ (v ∷ [])))) e)

  pub fill_refused : (left at : ℕ) (done : List ℤ) (r : Refusal) → 0 < left → field_at part file at done ≡ got.Refused r →
      fill_from part file left at done ≡ record { run = Refused r; values = done }
  unfolding fill_from
  fill_refused zero at done r h e = absurd (omega arith)
  fill_refused (suc left) at done r h e = ap (λ (g : Got). onward g done (λ v next. fill_from part file left next (done ++ (v ∷ [])))) e
