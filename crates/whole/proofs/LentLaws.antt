-- Laws of lent slices, of whatever they hold: values over the front of one, and over the rest of one. Assumes nothing.
use mathlib.Core.List.{List, [], ◌++◌, ◌∷◌, append_assoc, append-nil}
use mathlib.Core.Path.{◌∙◌, ◌≡◌, ap, sym}
use Prim.Native.Nat.{◌+◌, ◌-◌, ◌<◌, ◌≤◌, ℕ}
use native.Mathlib.Numerals.{add-one}
use native.Mathlib.Omega.{arith}
use lib.ListN.{get_or-append, drop, drop_of_length-le, get_or, length, length-append, length-drop, set, take, take-append-drop}
use lib.Seq.{drop-append_seam, drop_at, drop-drop, drop-set-lt, length-take-le, take_all, take-append_seam, take-suc-set}
use borrow.Rule.Slice.PartMut.{put_mid}
use Rattle.whole.specs.Lent.{over}

module _ {A : Type 0} where
  -- where the rest past j is as it was, the whole is its first j over what was there
  pub over_front : (j : ℕ) (l l₀ : List A) → j ≤ length l → drop j l ≡ drop j l₀ → l ≡ over (take j l) l₀
  over_front j l l₀ h e = rw (length-take-le j l h) (sym (take-append-drop j l) ∙ ap (λ (r : List A). take j l ++ r) e)

  -- one more is stored
  pub stored_take : (j : ℕ) (l : List A) (v : A) → j < length l → take (j + 1) (set l j v) ≡ take j l ++ (v ∷ [])
  stored_take j l v h = rw add-one (take-suc-set l j v h)

  pub stored_drop : (j : ℕ) (l l₀ : List A) (v : A) → drop j l ≡ drop j l₀ → drop (j + 1) (set l j v) ≡ drop (j + 1) l₀
  stored_drop j l l₀ v e = rw (drop-set-lt (j + 1) l j v (omega arith)) (sym (drop-drop 1 j l) ∙ ap (drop 1) e ∙ drop-drop 1 j l₀)

  -- values that go over the part right behind what lies over the front
  pub over_part : (vs ws l : List A) → take (length vs) (over vs l) ++ over ws (drop (length vs) (over vs l)) ≡ over (vs ++ ws) l
  over_part vs ws l =
      let n = length vs in
      rw (take-append_seam vs (drop n l), drop-append_seam vs (drop n l), drop-drop (length ws) n l, length-append vs ws) (sym (append_assoc vs ws (drop (n + length ws) l)))

  -- the part of a slice from a place on, and what was put over it: the slice up to the place, and then that
  pub rest_all : (n : ℕ) (l : List A) → take (length l - n) (drop n l) ≡ drop n l
  rest_all n l = take_all (length l - n) (drop n l) (omega (arith, length-drop n l))

  pub rest_put : (n : ℕ) (l ys : List A) → put_mid n (length l - n) l ys ≡ take n l ++ ys
  rest_put n l ys = rw (drop_of_length-le (drop n l) {i = length l - n} (omega (arith, length-drop n l))) (ap (λ (r : List A). take n l ++ r) (append-nil ys))

  -- values that go over the rest of a slice, right behind what lies over its front
  pub over_rest : {n : ℕ} {out rest : List A} (vs ws l : List A) → length vs ≡ n → out ≡ over vs l → rest ≡ over ws (take (length out - n) (drop n out)) → put_mid n (length out - n) out rest ≡ over (vs ++ ws) l
  over_rest {n} {out} {rest} vs ws l h e p = rest_put n out rest ∙ rw (p, rest_all n out, e, ← h) (over_part vs ws l)

  -- behind what lies over the front all is as it was
  pub over_behind : (n : ℕ) (vs l : List A) → length vs ≡ n → drop n (over vs l) ≡ drop n l
  over_behind n vs l h = drop_at vs (drop (length vs) l) n h ∙ ap (λ (k : ℕ). drop k l) h

  -- what lies over the front is read there again; a is what a read beyond the end would give
  pub over_same : (a : A) (n : ℕ) (vs l : List A) → length vs ≡ n → (k : ℕ) → k < n → get_or vs k a ≡ get_or (over vs l) k a
  over_same a n vs l h k less = sym (get_or-append vs (drop (length vs) l) a k (omega arith))

  -- and has room there
  pub over_room : (n : ℕ) (vs l : List A) → length vs ≡ n → n ≤ length (over vs l)
  over_room n vs l h = omega (arith, length-append vs (drop (length vs) l))
