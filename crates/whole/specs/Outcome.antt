-- "For each input the contract of a public function leaves one result and one content of lent memory, refusals too. Show that by proving any two
-- permitted outcomes equal" (document 01, "Proof against hollow promises"). What a contract permits is what Rattle lets a caller learn of a call, the
-- function's own `Learnt`: of lifetimes, arguments, result and parameters at exit.
use Rattle.std.specs.Prelude.{◌≡◌}

-- any two results that a contract permits are equal
abbrev pub OneResult : {K : Type 0} {A Z E : K → Type 0} → ((κs : K) → A κs → Z κs → E κs → Type 0) → Type 0
OneResult {K} {A} {Z} {E} permits = (κs : K) (a : A κs) (z w : Z κs) (e f : E κs) → permits κs a z e → permits κs a w f → z ≡ w

-- any two contents of lent memory that a contract permits are equal
abbrev pub OneContent : {K C : Type 0} {A Z E : K → Type 0} → ((κs : K) → A κs → Z κs → E κs → Type 0) → ((κs : K) → E κs → C) → Type 0
OneContent {K} {C} {A} {Z} {E} permits content = (κs : K) (a : A κs) (z w : Z κs) (e f : E κs) → permits κs a z e → permits κs a w f → content κs e ≡ content κs f
