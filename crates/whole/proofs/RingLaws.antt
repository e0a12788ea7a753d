-- Identities of ℤ by computation: `ring (a ∷ b ∷ c ∷ []) (search polynomials depth 40) (search polynomials depth 40) tt` proves x ≡ y, where x and y are
-- polynomials in a, b and c, of which there are ten at the most. A polynomial is a constant, or p + v * q, where v is the list's first variable, p is over
-- the list's rest and q over the list. `search` reads x and y off as such, and the test that their difference has no coefficient but 0 computes.
-- Assumes nothing.
use mathlib.Core.Path.{◌≡◌, refl, sym, ap₂, ◌∙◌}
use mathlib.Core.Bool.{Bool, ◌&&◌}
use mathlib.Core.List.{List, [], ◌∷◌}
use Prim.Native.Nat.{ℕ}
use native.Mathlib.Omega.{arith}
use lib.Dec.{T}
use lib.IntN.{ℤ, pos, negsuc, neg_ℤ, ◌+ℤ◌, ◌-ℤ◌, ◌*ℤ◌}
use Rattle.whole.specs.Whole.{is_zero}
use Rattle.whole.proofs.LinearLaws.{linear, from1, signed, #}
use Rattle.whole.proofs.OrderLaws.{zero_is}
use Rattle.whole.proofs.SearchLaws.{both}

pub data Polynomial : Type 0 where
  constant : ℤ → Polynomial
  horner : Polynomial → Polynomial → Polynomial

abbrev pub first : List ℤ → ℤ
first [] = pos 0
first (x ∷ ρ) = x

abbrev pub rest : List ℤ → List ℤ
rest [] = []
rest (x ∷ ρ) = ρ

abbrev pub eval : Polynomial → List ℤ → ℤ
eval (constant z) ρ = z
eval (horner p q) ρ = eval p (rest ρ) +ℤ first ρ *ℤ eval q ρ

abbrev pub add_k : ℤ → Polynomial → Polynomial
add_k a (constant b) = constant (a +ℤ b)
add_k a (horner p q) = horner (add_k a p) q

abbrev pub add : Polynomial → Polynomial → Polynomial
add (constant a) t = add_k a t
add (horner p q) (constant b) = horner (add_k b p) q
add (horner p q) (horner r s) = horner (add p r) (add q s)

abbrev pub mul_k : ℤ → Polynomial → Polynomial
mul_k a (constant b) = constant (a *ℤ b)
mul_k a (horner p q) = horner (mul_k a p) (mul_k a q)

-- f of each coefficient over the rest
abbrev pub each : (Polynomial → Polynomial) → Polynomial → Polynomial
each f (constant b) = horner (f (constant b)) (constant (pos 0))
each f (horner r s) = horner (f r) (each f s)

abbrev pub mul : Polynomial → Polynomial → Polynomial
mul (constant a) t = mul_k a t
mul (horner p q) t = add (each (mul p) t) (horner (constant (pos 0)) (mul q t))

abbrev pub none : Polynomial → Bool
none (constant z) = is_zero z
none (horner p q) = none p && none q

-- ---- they mean what they are named for
add_k_is : (a : ℤ) (p : Polynomial) (ρ : List ℤ) → eval (add_k a p) ρ ≡ a +ℤ eval p ρ
add_k_is a (constant b) ρ = refl
add_k_is a (horner p q) ρ = rw (add_k_is a p (rest ρ)) (regroup a (eval p (rest ρ)) (first ρ *ℤ eval q ρ))
  where
    regroup : (a x y : ℤ) → a +ℤ x +ℤ y ≡ a +ℤ (x +ℤ y)
    regroup a x y = linear (search (signed, # a, # x, # y) depth 30) (omega arith)

add_is : (p q : Polynomial) (ρ : List ℤ) → eval (add p q) ρ ≡ eval p ρ +ℤ eval q ρ
add_is (constant a) t ρ = add_k_is a t ρ
add_is (horner p q) (constant b) ρ = rw (add_k_is b p (rest ρ)) (regroup b (eval p (rest ρ)) (first ρ *ℤ eval q ρ))
  where
    regroup : (b x y : ℤ) → b +ℤ x +ℤ y ≡ x +ℤ y +ℤ b
    regroup b x y = linear (search (signed, # b, # x, # y) depth 30) (omega arith)
add_is (horner p q) (horner r s) ρ = rw (add_is p r (rest ρ), add_is q s ρ) (regroup (eval p (rest ρ)) (eval r (rest ρ)) (first ρ) (eval q ρ) (eval s ρ))
  where
    regroup : (p r v q s : ℤ) → p +ℤ r +ℤ v *ℤ (q +ℤ s) ≡ p +ℤ v *ℤ q +ℤ (r +ℤ v *ℤ s)
    regroup p r v q s = linear (search (signed, # p, # r, # v, # q, # s) depth 30) (omega arith)

scaled : (a p v q : ℤ) → a *ℤ p +ℤ v *ℤ (a *ℤ q) ≡ a *ℤ (p +ℤ v *ℤ q)
scaled a p v q = linear (search (signed, # a, # p, # v, # q) depth 30) (omega arith)

mul_k_is : (a : ℤ) (p : Polynomial) (ρ : List ℤ) → eval (mul_k a p) ρ ≡ a *ℤ eval p ρ
mul_k_is a (constant b) ρ = refl
mul_k_is a (horner p q) ρ = rw (mul_k_is a p (rest ρ), mul_k_is a q ρ) (scaled a (eval p (rest ρ)) (first ρ) (eval q ρ))

each_is : (f : Polynomial → Polynomial) (z : ℤ) (t : Polynomial) (ρ : List ℤ) → ((u : Polynomial) → eval (f u) (rest ρ) ≡ z *ℤ eval u (rest ρ)) → eval (each f t) ρ ≡ z *ℤ eval t ρ
each_is f z (constant b) ρ e = rw (e (constant b)) (regroup z b (first ρ))
  where
    regroup : (z b v : ℤ) → z *ℤ b +ℤ v *ℤ pos 0 ≡ z *ℤ b
    regroup z b v = linear (search (signed, # z, # b, # v) depth 30) (omega arith)
each_is f z (horner r s) ρ e = rw (e r, each_is f z s ρ e) (scaled z (eval r (rest ρ)) (first ρ) (eval s ρ))

mul_is : (p q : Polynomial) (ρ : List ℤ) → eval (mul p q) ρ ≡ eval p ρ *ℤ eval q ρ
mul_is (constant a) t ρ = mul_k_is a t ρ
mul_is (horner p q) t ρ =
    rw (add_is (each (mul p) t) (horner (constant (pos 0)) (mul q t)) ρ, each_is (mul p) (eval p (rest ρ)) t ρ (λ u. mul_is p u (rest ρ)), mul_is q t ρ)
    (regroup (eval p (rest ρ)) (first ρ) (eval q ρ) (eval t ρ))
  where
    regroup : (p v q t : ℤ) → p *ℤ t +ℤ (pos 0 +ℤ v *ℤ (q *ℤ t)) ≡ (p +ℤ v *ℤ q) *ℤ t
    regroup p v q t = linear (search (signed, # p, # v, # q, # t) depth 30) (omega arith)

none_is : (p : Polynomial) (ρ : List ℤ) → T (none p) → eval p ρ ≡ pos 0
none_is (constant z) ρ t = zero_is z t
none_is (horner p q) ρ t =
    let z = both (none p) (none q) t in
    rw (none_is p (rest ρ) z.0, none_is q ρ z.1) (regroup (first ρ))
  where
    regroup : (v : ℤ) → pos 0 +ℤ v *ℤ pos 0 ≡ pos 0
    regroup v = linear (search (signed, # v) depth 30) (omega arith)

-- ---- reading a term off
pub data Reading (ρ : List ℤ) : ℤ → Type 0 where
  reading : {z : ℤ} (p : Polynomial) → z ≡ eval p ρ → Reading ρ z

abbrev pub poly : {ρ : List ℤ} {z : ℤ} → Reading ρ z → Polynomial
poly (reading p e) = p

pub reads : {ρ : List ℤ} {z : ℤ} (r : Reading ρ z) → z ≡ eval (poly r) ρ
reads (reading p e) = e

var_is : (x : ℤ) → x ≡ pos 0 +ℤ x *ℤ pos 1
var_is x = linear (search (signed, # x) depth 30) (omega arith)

lift_is : (x y : ℤ) → x ≡ x +ℤ y *ℤ pos 0
lift_is x y = linear (search (signed, # x, # y) depth 30) (omega arith)

pub head_is : (x : ℤ) (ρ : List ℤ) → x ≡ eval (horner (constant (pos 0)) (constant (pos 1))) (x ∷ ρ)
head_is x ρ = var_is x

pub tail_is : (x y : ℤ) (ρ : List ℤ) (r : Reading ρ x) → x ≡ eval (horner (poly r) (constant (pos 0))) (y ∷ ρ)
tail_is x y ρ r = reads r ∙ lift_is (eval (poly r) ρ) y

abbrev pub r_head : (x : ℤ) (ρ : List ℤ) → Reading (x ∷ ρ) x
r_head x ρ = reading (horner (constant (pos 0)) (constant (pos 1))) (head_is x ρ)

abbrev pub r_tail : (x y : ℤ) (ρ : List ℤ) → Reading ρ x → Reading (y ∷ ρ) x
r_tail x y ρ r = reading (horner (poly r) (constant (pos 0))) (tail_is x y ρ r)

-- the list's second variable, its third, and so on
abbrev pub r1 : (x a : ℤ) (ρ : List ℤ) → Reading (a ∷ x ∷ ρ) x
r1 x a ρ = r_tail x a (x ∷ ρ) (r_head x ρ)

abbrev pub r2 : (x a b : ℤ) (ρ : List ℤ) → Reading (a ∷ b ∷ x ∷ ρ) x
r2 x a b ρ = r_tail x a (b ∷ x ∷ ρ) (r1 x b ρ)

abbrev pub r3 : (x a b c : ℤ) (ρ : List ℤ) → Reading (a ∷ b ∷ c ∷ x ∷ ρ) x
r3 x a b c ρ = r_tail x a (b ∷ c ∷ x ∷ ρ) (r2 x b c ρ)

abbrev pub r4 : (x a b c d : ℤ) (ρ : List ℤ) → Reading (a ∷ b ∷ c ∷ d ∷ x ∷ ρ) x
r4 x a b c d ρ = r_tail x a (b ∷ c ∷ d ∷ x ∷ ρ) (r3 x b c d ρ)

abbrev pub r5 : (x a b c d e : ℤ) (ρ : List ℤ) → Reading (a ∷ b ∷ c ∷ d ∷ e ∷ x ∷ ρ) x
r5 x a b c d e ρ = r_tail x a (b ∷ c ∷ d ∷ e ∷ x ∷ ρ) (r4 x b c d e ρ)

abbrev pub r6 : (x a b c d e f : ℤ) (ρ : List ℤ) → Reading (a ∷ b ∷ c ∷ d ∷ e ∷ f ∷ x ∷ ρ) x
r6 x a b c d e f ρ = r_tail x a (b ∷ c ∷ d ∷ e ∷ f ∷ x ∷ ρ) (r5 x b c d e f ρ)

abbrev pub r7 : (x a b c d e f g : ℤ) (ρ : List ℤ) → Reading (a ∷ b ∷ c ∷ d ∷ e ∷ f ∷ g ∷ x ∷ ρ) x
r7 x a b c d e f g ρ = r_tail x a (b ∷ c ∷ d ∷ e ∷ f ∷ g ∷ x ∷ ρ) (r6 x b c d e f g ρ)

abbrev pub r8 : (x a b c d e f g i : ℤ) (ρ : List ℤ) → Reading (a ∷ b ∷ c ∷ d ∷ e ∷ f ∷ g ∷ i ∷ x ∷ ρ) x
r8 x a b c d e f g i ρ = r_tail x a (b ∷ c ∷ d ∷ e ∷ f ∷ g ∷ i ∷ x ∷ ρ) (r7 x b c d e f g i ρ)

abbrev pub r9 : (x a b c d e f g i j : ℤ) (ρ : List ℤ) → Reading (a ∷ b ∷ c ∷ d ∷ e ∷ f ∷ g ∷ i ∷ j ∷ x ∷ ρ) x
r9 x a b c d e f g i j ρ = r_tail x a (b ∷ c ∷ d ∷ e ∷ f ∷ g ∷ i ∷ j ∷ x ∷ ρ) (r8 x b c d e f g i j ρ)

abbrev pub r_pos : (ρ : List ℤ) (n : ℕ) → Reading ρ (pos n)
r_pos ρ n = reading (constant (pos n)) refl

abbrev pub r_negsuc : (ρ : List ℤ) (n : ℕ) → Reading ρ (negsuc n)
r_negsuc ρ n = reading (constant (negsuc n)) refl

module _ (ρ : List ℤ) (x y : ℤ) (a : Reading ρ x) (b : Reading ρ y) where
  pub r_add_is : x +ℤ y ≡ eval (add (poly a) (poly b)) ρ
  r_add_is = ap₂ ◌+ℤ◌ (reads a) (reads b) ∙ sym (add_is (poly a) (poly b) ρ)

  pub r_mul_is : x *ℤ y ≡ eval (mul (poly a) (poly b)) ρ
  r_mul_is = ap₂ ◌*ℤ◌ (reads a) (reads b) ∙ sym (mul_is (poly a) (poly b) ρ)

  pub r_sub_is : x -ℤ y ≡ eval (add (poly a) (mul_k (negsuc 0) (poly b))) ρ
  r_sub_is = rw (add_is (poly a) (mul_k (negsuc 0) (poly b)) ρ, mul_k_is (negsuc 0) (poly b) ρ, ← reads a, ← reads b) (minus x y)
    where
      minus : (x y : ℤ) → x -ℤ y ≡ x +ℤ negsuc 0 *ℤ y
      minus x y = linear (search (signed, # x, # y) depth 30) (omega arith)

  abbrev pub r_add : Reading ρ (x +ℤ y)
  r_add = reading (add (poly a) (poly b)) r_add_is

  abbrev pub r_mul : Reading ρ (x *ℤ y)
  r_mul = reading (mul (poly a) (poly b)) r_mul_is

  abbrev pub r_sub : Reading ρ (x -ℤ y)
  r_sub = reading (add (poly a) (mul_k (negsuc 0) (poly b))) r_sub_is

module _ (ρ : List ℤ) (x : ℤ) (a : Reading ρ x) where
  pub r_neg_is : neg_ℤ x ≡ eval (mul_k (negsuc 0) (poly a)) ρ
  r_neg_is = rw (mul_k_is (negsuc 0) (poly a) ρ, ← reads a) (minus x)
    where
      minus : (x : ℤ) → neg_ℤ x ≡ negsuc 0 *ℤ x
      minus x = linear (search (signed, # x) depth 30) (omega arith)

  abbrev pub r_neg : Reading ρ (neg_ℤ x)
  r_neg = reading (mul_k (negsuc 0) (poly a)) r_neg_is

pub ruleset polynomials = (r_head, r1, r2, r3, r4, r5, r6, r7, r8, r9, r_pos, r_negsuc, r_add, r_mul, r_sub, r_neg)

pub ring : (ρ : List ℤ) {x y : ℤ} (a : Reading ρ x) (b : Reading ρ y) → T (none (add (poly a) (mul_k (negsuc 0) (poly b)))) → x ≡ y
ring ρ {x} {y} a b t = from1 (r_sub_is ρ x y a b ∙ none_is (add (poly a) (mul_k (negsuc 0) (poly b))) ρ t) (search (signed, # x, # y) depth 30) (omega arith)
