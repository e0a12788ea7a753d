-- Two doubles that the format holds and that have one sign and one value are the same double. Assumes nothing.
use mathlib.Core.Bool.{Bool, ◌&&◌}
use mathlib.Core.Path.{◌∙◌, ◌≡◌, ap, refl, subst, sym}
use Prim.Native.Nat.{◌%◌, ◌*◌, ◌+◌, ◌<◌, ◌^◌, pred, suc, zero, ℕ}
use native.Mathlib.Nat.{eq_of_mul-eq-mul_right, lt_irrefl, mul_assoc, mul_left_comm, mul-one, mul-pos, mul_right_comm, one-mul, pow-suc, pow-succ', zero-lt-suc, zero-mul}
use native.Mathlib.Omega.{arith}
use lib.Dec.{T, eqb, eqb→eq, leb, ltb}
use lib.Ieee.{Float, binary64, down, fin, fits, inf, nan, up}
use lib.Ieee.Exact.{HasValue}
use lib.Ieee.Fits.{and_l, down_pos, up_pos}
use lib.IntN.{negsuc, pos, ℤ}
use lib.Pow.{pow-add, pow_pos}

even_odd : (m t : ℕ) → m % 2 ≡ 1 → m ≡ 2 * t → ⊥
even_odd m t o h = omega arith

odd_pow : (m n a b : ℕ) → m % 2 ≡ 1 → n % 2 ≡ 1 → m * 2 ^ a ≡ n * 2 ^ b → (m ≡ n) × (a ≡ b)
odd_pow m n zero zero o p h = (sym (mul-one m) ∙ h ∙ mul-one n, refl)
odd_pow m n zero (suc b) o p h = absurd (even_odd m (n * 2 ^ b) o (sym (mul-one m) ∙ h ∙ ap (λ (x : ℕ). n * x) (pow-succ' 2 b) ∙ mul_left_comm n 2 (2 ^ b)))
odd_pow m n (suc a) zero o p h = absurd (even_odd n (m * 2 ^ a) p (sym (mul-one n) ∙ sym h ∙ ap (λ (x : ℕ). m * x) (pow-succ' 2 a) ∙ mul_left_comm m 2 (2 ^ a)))
odd_pow m n (suc a) (suc b) o p h =
    let r = odd_pow m n a b o p (eq_of_mul-eq-mul_right 2 (zero-lt-suc 1) (m * 2 ^ a) (n * 2 ^ b)
    (mul_assoc m (2 ^ a) 2 ∙ ap (λ (x : ℕ). m * x) (sym (pow-suc 2 a)) ∙ h ∙ ap (λ (x : ℕ). n * x) (pow-suc 2 b) ∙ sym (mul_assoc n (2 ^ b) 2))) in
    (r.0, ap suc r.1)

no_sum : (a b : ℕ) → a + suc b ≡ 0 → ⊥
no_sum a b h = omega arith

-- m * 2 ^ e and n * 2 ^ g are the same number
same_pow : (m n : ℕ) (e g : ℤ) → m % 2 ≡ 1 → n % 2 ≡ 1 → m * up e * down g ≡ n * up g * down e → (m ≡ n) × (e ≡ g)
same_pow m n (pos a) (pos b) o p h =
    let r = odd_pow m n a b o p (sym (mul-one (m * 2 ^ a)) ∙ h ∙ mul-one (n * 2 ^ b)) in (r.0, ap pos r.1)
same_pow m n (pos a) (negsuc b) o p h =
    let r = odd_pow m n (a + suc b) 0 o p (ap (λ (x : ℕ). m * x) (pow-add 2 a (suc b)) ∙ sym (mul_assoc m (2 ^ a) (2 ^ suc b)) ∙ h ∙ mul-one (n * 1)) in
    absurd (no_sum a b r.1)
same_pow m n (negsuc a) (pos b) o p h =
    let r = odd_pow n m (b + suc a) 0 p o (ap (λ (x : ℕ). n * x) (pow-add 2 b (suc a)) ∙ sym (mul_assoc n (2 ^ b) (2 ^ suc a)) ∙ sym h ∙ mul-one (m * 1)) in
    absurd (no_sum b a r.1)
same_pow m n (negsuc a) (negsuc b) o p h =
    let r = odd_pow m n (suc b) (suc a) o p (ap (λ (x : ℕ). x * 2 ^ suc b) (sym (mul-one m)) ∙ h ∙ ap (λ (x : ℕ). x * 2 ^ suc a) (mul-one n)) in
    (r.0, ap negsuc (sym (ap pred r.1)))

-- of a value that a format holds: m is odd, or it is 0 with the exponent 0
is_odd : (s : Bool) (m : ℕ) (e : ℤ) → T (fits binary64 (fin s (suc m) e)) → suc m % 2 ≡ 1
unfolding fits
is_odd s m e t =
    eqb→eq (suc m % 2) 1 (and_l (eqb (suc m % 2) 1) (ltb (suc m) (2 ^ 53)) (and_l (eqb (suc m % 2) 1 && ltb (suc m) (2 ^ 53)) (leb (down e) (2 ^ 1074))
    (and_l (eqb (suc m % 2) 1 && ltb (suc m) (2 ^ 53) && leb (down e) (2 ^ 1074)) (ltb (suc m * up e) (2 ^ 1024 * down e)) t)))

two_up : (p : ℕ) → 0 < p → 2 * p ≡ 1 → ⊥
two_up p h e = omega arith

flat : (e : ℤ) → up e * down e ≡ 1 → e ≡ pos 0
flat (pos zero) h = refl
flat (pos (suc k)) h = absurd (two_up (2 ^ k) (pow_pos k) (sym (pow-succ' 2 k) ∙ sym (mul-one (2 ^ suc k)) ∙ h))
flat (negsuc k) h = absurd (two_up (2 ^ k) (pow_pos k) (sym (pow-succ' 2 k) ∙ sym (one-mul (2 ^ suc k)) ∙ h))

zero_exp : (s : Bool) (e : ℤ) → T (fits binary64 (fin s zero e)) → e ≡ pos 0
unfolding fits
zero_exp s e t = flat e (eqb→eq (up e * down e) 1 t)

-- x / d is a / c and y / f is a / c, so x * f is y * d
cross : (x d y f a c : ℕ) → 0 < c → x * c ≡ a * d → y * c ≡ a * f → x * f ≡ y * d
cross x d y f a c C p q =
    eq_of_mul-eq-mul_right c C (x * f) (y * d)
    (mul_right_comm x f c ∙ ap (λ (z : ℕ). z * f) p ∙ mul_right_comm a d f ∙ ap (λ (z : ℕ). z * d) (sym q) ∙ mul_right_comm y c d)

not_zero : (m u f d : ℕ) → 0 < u → 0 < f → 0 * d ≡ suc m * u * f → ⊥
not_zero m u f d U F h = lt_irrefl 0 (subst (λ (x : ℕ). 0 < x) (sym h ∙ zero-mul d) (mul-pos (mul-pos (zero-lt-suc m) U) F))

pub value_unique : (x y : Float) (s : Bool) (a c : ℕ) → 0 < c → T (fits binary64 x) → T (fits binary64 y) → HasValue x s a c → HasValue y s a c → x ≡ y
value_unique nan y s a c C p q v w = absurd v
value_unique (inf t) y s a c C p q v w = absurd v
value_unique (fin t m e) nan s a c C p q v w = absurd w
value_unique (fin t m e) (inf u) s a c C p q v w = absurd w
value_unique (fin t zero e) (fin u zero g) s a c C p q v w = λ i. fin ((v.0 ∙ sym w.0) i) zero ((zero_exp t e p ∙ sym (zero_exp u g q)) i)
value_unique (fin t zero e) (fin u (suc n) g) s a c C p q v w =
    absurd (not_zero n (up g) (down e) (down g) (up_pos g) (down_pos e) (ap (λ (z : ℕ). z * down g) (sym (zero-mul (up e))) ∙ cross (zero * up e) (down e) (suc n * up g) (down g) a c C v.1 w.1))
value_unique (fin t (suc m) e) (fin u zero g) s a c C p q v w =
    absurd (not_zero m (up e) (down g) (down e) (up_pos e) (down_pos g) (ap (λ (z : ℕ). z * down e) (sym (zero-mul (up g))) ∙ cross (zero * up g) (down g) (suc m * up e) (down e) a c C w.1 v.1))
value_unique (fin t (suc m) e) (fin u (suc n) g) s a c C p q v w =
    let r = same_pow (suc m) (suc n) e g (is_odd t m e p) (is_odd u n g q) (cross (suc m * up e) (down e) (suc n * up g) (down g) a c C v.1 w.1) in
    λ i. fin ((v.0 ∙ sym w.0) i) (r.0 i) (r.1 i)
