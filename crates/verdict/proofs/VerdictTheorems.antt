-- What the verdict says (document 01, "Balance, verdict, table"): of any grid, slots and balances β, and of a case as the client hands it in.
-- Assumes nothing.
use mathlib.Core.Bool.{Bool, false, true, true≢false}
use mathlib.Core.List.{List}
use mathlib.Core.Logic.{◌↔◌, ◌≢◌, ◌⊎◌, inl, inr, ⊎_elim}
use mathlib.Core.Path.{◌∙◌, ◌≡◌, ap, refl, subst, sym}
use Prim.Native.Nat.{◌%◌, ◌*◌, ◌+◌, ◌/◌, ◌<◌, suc, zero, ℕ}
use native.Mathlib.Decide.{ℕ_discrete}
use native.Mathlib.Omega.{arith}
use lib.Dec.{T}
use lib.IntN.{pos, ℤ}
use lib.Signed.{◌≤ℤ◌}
use borrow.Author.Tests.{eq-eqb, ne_eqb}
use Rattle.whole.specs.Sum.{count}
use Rattle.whole.proofs.OrderLaws.{≤ℤ_antisymm}
use Rattle.whole.proofs.SearchLaws.{holds, most_none, true_is}
use Rattle.grid.specs.declared.Grid.{Grid}
use Rattle.grid.specs.Inner.{Counted}
use Rattle.grid.specs.Place.{blocks_of}
use Rattle.slices.specs.Slices.{Case, case_of, refusal}
use Rattle.slices.specs.Inner.{Roomy}
use Rattle.slices.proofs.SlicesLaws.{given_same}
use Rattle.block.specs.declared.Fluids.{Fluids}
use Rattle.block.specs.Fluids.{fresh, in_fluid, salt}
use Rattle.wellformed.specs.Meaning.{SlicesRefused}
use Rattle.wellformed.specs.Limits.{checked_of}
use Rattle.wellformed.proofs.LimitsLaws.{checked_stands}
use Rattle.wellformed.proofs.RoomLaws.{Alike, block_in_same, by_record, room_unread}
use Rattle.wellformed.proofs.WellformedTheorems.{slices_refused_exactly}
use Rattle.books.specs.Waters.{Wet, dry_at}
use Rattle.balance.specs.Balance.{balances_of}
use Rattle.balance.proofs.SameLaws.{alike_cases, balances_same}
use Rattle.verdict.specs.Acceptance.{Accepted, First, Nowhere}
use Rattle.verdict.specs.Places.{counted_at, fails_at, free_at, free_size_of, moved_at, places_of, size_of}
use Rattle.verdict.specs.Ruling.{block_number, by_balance, count_of, first_place, largest_of, no_verdict, verdict_answer, verdict_by, verdict_of}
use Rattle.verdict.proofs.AcceptanceLaws.{bounds_all, dry_code, dry_none, failing_code, fails_counted, fails_none, first_as, first_told, largest_told, moved_code, moved_none, none_dry, none_fails, none_moved, passed_code, reached_all, told_first}
use Rattle.verdict.proofs.PlacesLaws.{block_below, block_of_lem, fluid_below, fluid_of, free_size_off, free_size_on, holds_within, size_least, still, unmoved, within_tolerance}
use Rattle.verdict.proofs.RulingLaws.{Way, balance_block, balance_count, block_is, block_number_lem, by_the_balances, count_failing, count_is, count_of_none, dry, dry_wells, failing, failing_counted, largest_is, moved, none_of_count, passed, verdict_by_blocks, way}

module _ (g : Grid) (slots : List ℤ) (β : ℕ → Fluids) where
  -- ---- the code

  -- Heads are accepted, code 0, exactly where every fixed head stands, no well is dry and every free balance is within the tolerance.
  pub accepted_exactly : ((verdict_by g slots β).code ≡ 0) ↔ Accepted g slots β
  accepted_exactly = (λ c. sound_of (way g slots β) c, code_of_lem)
    where
      sound_of : Way g slots β → (verdict_by g slots β).code ≡ 0 → Accepted g slots β
      sound_of (moved p e r) c = absurd (omega (arith, moved_code g slots β r, c))
      sound_of (dry p e d r) c = absurd (omega (arith, dry_code g slots β r, c))
      sound_of (failing p e d f r) c = absurd (omega (arith, failing_code g slots β p f r, c))
      sound_of (passed e d f r) c =
          record {
            stands = λ i fluid l m. still slots fluid i (none_moved g slots β e i fluid l m);
            wet = none_dry g slots β d;
            within = λ i fluid l m. within_tolerance g slots β fluid i (none_fails g slots β f i fluid l m);
          }

      code_of_lem : Accepted g slots β → (verdict_by g slots β).code ≡ 0
      code_of_lem a =
          let e = moved_none g slots β (λ i fluid l m. unmoved slots fluid i (a.stands i fluid l m)) in
          let d = dry_none g slots β a.wet in
          passed_code g slots β (fails_none g slots β (λ i fluid l m. holds_within g slots β fluid i (a.within i fluid l m))) (by_the_balances g slots β e d)

  -- The code is 21 where any fixed head moved,
  pub moved_21 : (i fluid : ℕ) → i < blocks_of g → fluid < 2 → T (moved_at slots fluid i) → (verdict_by g slots β).code ≡ 21
  moved_21 i fluid l m t = go (way g slots β)
    where
      not_none : first_place g slots β 21 ≢ 0
      not_none e = true≢false (sym (true_is t) ∙ none_moved g slots β e i fluid l m)

      go : Way g slots β → (verdict_by g slots β).code ≡ 21
      go (moved p e r) = moved_code g slots β r
      go (dry p e d r) = absurd (not_none e)
      go (failing p e d f r) = absurd (not_none e)
      go (passed e d f r) = absurd (not_none e)

  -- 22 where none moved and any well is dry,
  pub dry_22 : Nowhere g (moved_at slots) → (i : ℕ) → i < blocks_of g → T (dry_at g slots i) → (verdict_by g slots β).code ≡ 22
  dry_22 h i l t = go (way g slots β)
    where
      not_none : first_place g slots β 22 ≢ 0
      not_none d = true≢false (sym (true_is t) ∙ none_dry g slots β d i l)

      go : Way g slots β → (verdict_by g slots β).code ≡ 22
      go (moved p e r) = absurd (omega (arith, e, moved_none g slots β h))
      go (dry p e d r) = dry_code g slots β r
      go (failing p e d f r) = absurd (not_none d)
      go (passed e d f r) = absurd (not_none d)

  -- and 23 or 24, by its fluid, where none moved, none is dry and place (i, fluid) is the first that fails; the block is that place's.
  pub failing_23_24 : Nowhere g (moved_at slots) → Wet g slots → (i fluid : ℕ) → First g (fails_at g slots β) i fluid
      → ((verdict_by g slots β).code ≡ 23 + fluid) × ((verdict_by g slots β).block ≡ i + 1)
  failing_23_24 h k i fluid first =
      let r = by_the_balances g slots β (moved_none g slots β h) (dry_none g slots β k) in
      let f = told_first g slots β 23 i fluid (first_as g (fails_at g slots β) (counted_at g slots β 23) i fluid (λ f j. sym (fails_counted g slots β f j)) first) in (
        failing_code g slots β (2 * i + fluid) f r ∙ ap (λ (n : ℕ). 23 + n) (fluid_of i fluid first.fluid_inside),
        balance_block g slots β r ∙ ap block_number f ∙ block_number_lem (2 * i + fluid) ∙ ap (λ (n : ℕ). n + 1) (block_of_lem i fluid first.fluid_inside),
      )

  -- There are no other codes.
  pub five_codes : (c : ℕ) → (verdict_by g slots β).code ≡ c → (c ≡ 0) ⊎ ((c ≡ 21) ⊎ ((c ≡ 22) ⊎ ((c ≡ 23) ⊎ (c ≡ 24))))
  five_codes c is = go (way g slots β)
    where
      by_fluid : (f : ℕ) → f < 2 → c ≡ 23 + f → (c ≡ 23) ⊎ (c ≡ 24)
      by_fluid zero l e = inl e
      by_fluid (suc zero) l e = inr e
      by_fluid (suc (suc f)) l e = absurd (omega arith)

      go : Way g slots β → (c ≡ 0) ⊎ ((c ≡ 21) ⊎ ((c ≡ 22) ⊎ ((c ≡ 23) ⊎ (c ≡ 24))))
      go (moved p e r) = inr (inl (sym is ∙ moved_code g slots β r))
      go (dry p e d r) = inr (inr (inl (sym is ∙ dry_code g slots β r)))
      go (failing p e d f r) = inr (inr (inr (by_fluid (p % 2) (fluid_below p) (sym is ∙ failing_code g slots β p f r))))
      go (passed e d f r) = inl (sym is ∙ passed_code g slots β f r)

  -- ---- the block

  -- Where heads are not accepted, the block is that of the first place that the code counts, counted from 1.
  pub first_block : (verdict_by g slots β).code ≢ 0
      → (i : ℕ) × ((fluid : ℕ) × (First g (counted_at g slots β (verdict_by g slots β).code) i fluid × ((verdict_by g slots β).block ≡ i + 1)))
  first_block n = go (way g slots β)
    where
      Found : Type 0
      Found = (i : ℕ) × ((fluid : ℕ) × (First g (counted_at g slots β (verdict_by g slots β).code) i fluid × ((verdict_by g slots β).block ≡ i + 1)))

      at : (code p : ℕ) → first_place g slots β code ≡ suc p → ((f j : ℕ) → counted_at g slots β code f j ≡ counted_at g slots β (verdict_by g slots β).code f j)
          → (verdict_by g slots β).block ≡ block_number (first_place g slots β code) → Found
      at code p e same b =
          (p / 2, (p % 2, (first_as g (counted_at g slots β code) (counted_at g slots β (verdict_by g slots β).code) (p / 2) (p % 2) same (first_told g slots β code p e), b ∙ ap block_number e ∙ block_number_lem p)))

      go : Way g slots β → Found
      go (moved p e r) = at 21 p e (λ f j. ap (λ (k : ℕ). counted_at g slots β k f j) (sym (moved_code g slots β r))) (block_is g slots β 21 r)
      go (dry p e d r) = at 22 p d (λ f j. ap (λ (k : ℕ). counted_at g slots β k f j) (sym (dry_code g slots β r))) (block_is g slots β 22 r)
      go (failing p e d f r) =
          at 23 p f
          (λ fluid j. fails_counted g slots β fluid j ∙ sym (failing_counted g slots β (verdict_by g slots β).code fluid j (λ c. omega (arith, failing_code g slots β p f r, c)) (λ c. omega (arith, failing_code g slots β p f r, c))))
          (balance_block g slots β r)
      go (passed e d f r) = absurd (n (passed_code g slots β f r))

  -- Where they are accepted, it is 0.
  pub accepted_block : (verdict_by g slots β).code ≡ 0 → (verdict_by g slots β).block ≡ 0
  accepted_block c = go (way g slots β)
    where
      go : Way g slots β → (verdict_by g slots β).block ≡ 0
      go (moved p e r) = absurd (omega (arith, moved_code g slots β r, c))
      go (dry p e d r) = absurd (omega (arith, dry_code g slots β r, c))
      go (failing p e d f r) = absurd (omega (arith, failing_code g slots β p f r, c))
      go (passed e d f r) = balance_block g slots β r ∙ ap block_number f

  -- ---- the count

  -- The count is that of the places that the code counts: moved heads for 21, dry wells for 22, otherwise failing places.
  pub count_places : (verdict_by g slots β).count ≡ count_of g slots β (verdict_by g slots β).code
  count_places = go (way g slots β)
    where
      failed : (code : ℕ) → verdict_by g slots β ≡ by_balance g slots β → (verdict_by g slots β).code ≡ code → code ≢ 21 → code ≢ 22 → (verdict_by g slots β).count ≡ count_of g slots β (verdict_by g slots β).code
      failed code r e h k = balance_count g slots β r ∙ sym (ap (count_of g slots β) e ∙ count_failing g slots β code h k)

      go : Way g slots β → (verdict_by g slots β).count ≡ count_of g slots β (verdict_by g slots β).code
      go (moved p e r) = count_is g slots β 21 r ∙ ap (count_of g slots β) (sym (moved_code g slots β r))
      go (dry p e d r) = count_is g slots β 22 r ∙ ap (count_of g slots β) (sym (dry_code g slots β r))
      go (failing p e d f r) = failed (23 + p % 2) r (failing_code g slots β p f r) (λ c. omega arith) (λ c. omega arith)
      go (passed e d f r) = failed 0 r (passed_code g slots β f r) (λ c. omega arith) (λ c. omega arith)

  -- Places that fail are counted in both fluids together, by the number 23.
  pub count_together : (verdict_by g slots β).code ≢ 21 → (verdict_by g slots β).code ≢ 22 → (verdict_by g slots β).count ≡ count_of g slots β 23
  count_together h k = count_places ∙ count_failing g slots β (verdict_by g slots β).code h k

  -- Dry wells are counted block by block.
  pub count_dry : (verdict_by g slots β).code ≡ 22 → (verdict_by g slots β).count ≡ count (blocks_of g) (dry_at g slots)
  count_dry e = count_places ∙ ap (count_of g slots β) e ∙ dry_wells g slots β

  -- The count is 0 exactly where heads are accepted.
  pub count_zero : ((verdict_by g slots β).count ≡ 0) ↔ ((verdict_by g slots β).code ≡ 0)
  count_zero = (λ z. accepted_of (way g slots β) z, λ c. none_of (way g slots β) c)
    where
      accepted_of : Way g slots β → (verdict_by g slots β).count ≡ 0 → (verdict_by g slots β).code ≡ 0
      accepted_of (moved p e r) z = absurd (omega (arith, e, none_of_count g slots β 21 (sym (count_is g slots β 21 r) ∙ z)))
      accepted_of (dry p e d r) z = absurd (omega (arith, d, none_of_count g slots β 22 (sym (count_is g slots β 22 r) ∙ z)))
      accepted_of (failing p e d f r) z = absurd (omega (arith, f, none_of_count g slots β 23 (sym (balance_count g slots β r) ∙ z)))
      accepted_of (passed e d f r) z = passed_code g slots β f r

      none_of : Way g slots β → (verdict_by g slots β).code ≡ 0 → (verdict_by g slots β).count ≡ 0
      none_of (moved p e r) c = absurd (omega (arith, moved_code g slots β r, c))
      none_of (dry p e d r) c = absurd (omega (arith, dry_code g slots β r, c))
      none_of (failing p e d f r) c = absurd (omega (arith, failing_code g slots β p f r, c))
      none_of (passed e d f r) c = balance_count g slots β r ∙ count_of_none g slots β 23 f

  -- ---- the largest balance

  -- No free place's balance without sign is above the largest,
  pub largest_bounds : (verdict_by g slots β).code ≢ 21 → (verdict_by g slots β).code ≢ 22
      → (i fluid : ℕ) → i < blocks_of g → fluid < 2 → T (free_at slots fluid i) → size_of (in_fluid (β i) fluid) ≤ℤ (verdict_by g slots β).largest
  largest_bounds h k i fluid l m t = rw (largest_told g slots β h k) (bounds_all g slots β i fluid l m t)

  -- which is one of them where any place is free,
  pub largest_reached : (verdict_by g slots β).code ≢ 21 → (verdict_by g slots β).code ≢ 22
      → (j f : ℕ) → j < blocks_of g → f < 2 → T (free_at slots f j)
      → (i : ℕ) × ((fluid : ℕ) × ((i < blocks_of g) × ((fluid < 2) × (T (free_at slots fluid i) × ((verdict_by g slots β).largest ≡ size_of (in_fluid (β i) fluid))))))
  largest_reached h k j f l m t = go (reached_all g slots β)
    where
      Reached : Type 0
      Reached = (i : ℕ) × ((fluid : ℕ) × ((i < blocks_of g) × ((fluid < 2) × (T (free_at slots fluid i) × ((verdict_by g slots β).largest ≡ size_of (in_fluid (β i) fluid))))))

      -- where it is 0, so is the balance at hand
      at_hand : largest_of g slots β ≡ pos 0 → Reached
      at_hand z =
          let least = ≤ℤ_antisymm (size_least (in_fluid (β j) f)) (subst (λ y. size_of (in_fluid (β j) f) ≤ℤ y) z (bounds_all g slots β j f l m t)) in
          (j, (f, (l, (m, (t, largest_told g slots β h k ∙ z ∙ least)))))

      there : (p : ℕ) → p < places_of g → largest_of g slots β ≡ free_size_of slots β p → (b : Bool) → free_at slots (p % 2) (p / 2) ≡ b → Reached
      there p l e true t = (p / 2, (p % 2, (block_below (blocks_of g) p l, (fluid_below p, (holds t, largest_told g slots β h k ∙ e ∙ free_size_on slots β p t)))))
      there p l e false t = at_hand (e ∙ free_size_off slots β p t)

      go : (largest_of g slots β ≡ pos 0) ⊎ ((p : ℕ) × ((p < places_of g) × (largest_of g slots β ≡ free_size_of slots β p))) → Reached
      go (inl z) = at_hand z
      go (inr w) = there w.0 w.1.0 w.1.1 (free_at slots (w.0 % 2) (w.0 / 2)) refl

  -- 0 where none is,
  pub largest_none : (verdict_by g slots β).code ≢ 21 → (verdict_by g slots β).code ≢ 22 → Nowhere g (free_at slots) → (verdict_by g slots β).largest ≡ pos 0
  unfolding largest_of
  largest_none h k n =
      largest_told g slots β h k
      ∙ most_none (free_size_of slots β) (places_of g) (λ p l. free_size_off slots β p (n (p / 2) (p % 2) (block_below (blocks_of g) p l) (fluid_below p)))

  -- and 0 for 21 and 22.
  pub largest_21_22 : ((verdict_by g slots β).code ≡ 21) ⊎ ((verdict_by g slots β).code ≡ 22) → (verdict_by g slots β).largest ≡ pos 0
  largest_21_22 c = go (way g slots β) c
    where
      go : Way g slots β → ((verdict_by g slots β).code ≡ 21) ⊎ ((verdict_by g slots β).code ≡ 22) → (verdict_by g slots β).largest ≡ pos 0
      go (moved p e r) c = largest_is g slots β 21 r
      go (dry p e d r) c = largest_is g slots β 22 r
      go (failing p e d f r) (inl c) = absurd (omega (arith, failing_code g slots β p f r, c))
      go (failing p e d f r) (inr c) = absurd (omega (arith, failing_code g slots β p f r, c))
      go (passed e d f r) (inl c) = absurd (omega (arith, passed_code g slots β f r, c))
      go (passed e d f r) (inr c) = absurd (omega (arith, passed_code g slots β f r, c))

-- ---- of a case in slices

-- what is answered beside no refusal, and beside one
judged_code : (c : Case) → (checked_of c).number ≡ 0 → (verdict_answer c).verdict.code ≡ (verdict_by c.grid c.slots (balances_of c)).code
unfolding verdict_answer verdict_of
judged_code c e = rw (eq-eqb (checked_of c).number 0 e)

refused_code : (c : Case) → (checked_of c).number ≢ 0 → (verdict_answer c).verdict.code ≡ 20
unfolding verdict_answer
refused_code c n = rw (ne_eqb (checked_of c).number 0 n)

-- Demand 2, of what the client is answered: the code is 0 exactly where the case is not refused and document 01 accepts its heads.
pub slices_accepted_exactly : (c : Case) → ((verdict_answer c).verdict.code ≡ 0) ↔ (((checked_of c).number ≡ 0) × Accepted c.grid c.slots (balances_of c))
slices_accepted_exactly c = (told (ℕ_discrete (checked_of c).number 0), λ h. judged_code c h.0 ∙ accepted.1 h.1)
  where
    accepted : ((verdict_by c.grid c.slots (balances_of c)).code ≡ 0) ↔ Accepted c.grid c.slots (balances_of c)
    accepted = accepted_exactly c.grid c.slots (balances_of c)

    told : Dec ((checked_of c).number ≡ 0) → (verdict_answer c).verdict.code ≡ 0 → ((checked_of c).number ≡ 0) × Accepted c.grid c.slots (balances_of c)
    told (yes e) z = (e, accepted.0 (sym (judged_code c e) ∙ z))
    told (no n) z = absurd (omega (arith, refused_code c n, z))

-- The code alone tells whether a case was judged: it is 20 exactly where the case is refused.
pub refused_exactly : (c : Case) → ((verdict_answer c).verdict.code ≡ 20) ↔ ((checked_of c).number ≢ 0)
refused_exactly c = (λ z e. never e z, refused_code c)
  where
    never : (checked_of c).number ≡ 0 → (verdict_answer c).verdict.code ≡ 20 → ⊥
    never e z =
        ⊎_elim (λ k. omega arith) (⊎_elim (λ k. omega arith) (⊎_elim (λ k. omega arith) (⊎_elim (λ k. omega arith) (λ k. omega arith))))
        (five_codes c.grid c.slots (balances_of c) 20 (sym (judged_code c e) ∙ z))

-- A verdict is refused with a number and a block exactly as the slices are.
pub verdict_refused_exactly : (c : Case) (number block : ℕ) → number ≢ 0 → ((verdict_answer c).refusal ≡ refusal number block) ↔ SlicesRefused c true number block
unfolding verdict_answer
verdict_refused_exactly c = slices_refused_exactly c

-- ---- room

-- cases of one record, alike in the numbers that it needs, have one verdict
module _ (c : Case) (columns rows slots : List ℤ) (alike : Alike c (case_of c.grid columns rows slots)) where
  abbrev other : Case
  other = case_of c.grid columns rows slots

  verdict_alike : Counted c.grid → verdict_of c ≡ verdict_of other
  unfolding verdict_of
  verdict_alike counted =
      verdict_by_blocks c.grid c.slots slots (balances_of c) (balances_of other) (block_in_same c columns rows slots alike)
      (balances_same counted (alike_cases c columns rows slots alike counted fresh) (alike_cases c columns rows slots alike counted salt))

  answer_alike : Roomy c → Roomy other → verdict_answer c ≡ verdict_answer other
  unfolding verdict_answer
  answer_alike m n =
      let checked = room_unread c other m n alike in
      λ k. record { refusal = checked k; verdict = given_same (verdict_of c) (verdict_of other) no_verdict checked (λ e. verdict_alike (checked_stands c e).judged.counted) k }

-- "Room beyond what is needed is not touched.", nor is it read: the verdict is told by the numbers that the record needs.
pub verdict_room_unread : (c d : Case) → Roomy c → Roomy d → Alike c d → verdict_answer c ≡ verdict_answer d
verdict_room_unread c d m n a =
    by_record (λ d. Alike c d → Roomy d → verdict_answer c ≡ verdict_answer d) d a.grid (λ a n. answer_alike c d.columns d.rows d.slots a m n) a n
