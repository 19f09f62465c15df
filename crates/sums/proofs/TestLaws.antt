-- Tests taken apart and put together.
-- Assumes nothing.
--
--   both_intro, both_left, both_right           the test of both
--   either_left, either_right, either_cases     the test of one of two
--   any_intro, any_elim                         the test of some number below n
--   tested                                      a test passes or fails
--   T_eq                                        tests that pass together are equal
--   eqb_on, eqb_off, ne_test, test_ne           the test of two equal numbers
use mathlib.Core.Path.{◌≡◌, refl, sym, subst}
use mathlib.Core.Logic.{◌⊎◌, inl, inr, ◌≢◌}
use mathlib.Core.Bool.{Bool, true, false, not}
use Prim.Native.Nat.{ℕ, zero, suc, ◌<◌}
use native.Mathlib.Nat.{not-suc-le-zero, le_refl}
use native.Mathlib.Decide.{ℕ_discrete}
use native.Mathlib.Omega.{arith}
use lib.Dec.{T, eqb, eqb→eq, eqb_refl, T_not, not_T}
use Rattle.sums.specs.Tests.{both, either, any}

pub both_intro : (a b : Bool) → T a → T b → T (both a b)
both_intro true b p q = q
both_intro false b p q = p

pub both_left : (a b : Bool) → T (both a b) → T a
both_left true b t = tt
both_left false b t = t

pub both_right : (a b : Bool) → T (both a b) → T b
both_right true b t = t
both_right false b t = absurd t

pub either_left : (a b : Bool) → T a → T (either a b)
either_left true b t = tt
either_left false b t = absurd t

pub either_right : (a b : Bool) → T b → T (either a b)
either_right true b t = tt
either_right false b t = t

pub either_cases : (a b : Bool) → T (either a b) → T a ⊎ T b
either_cases true b t = inl tt
either_cases false b t = inr t

-- a test passes or fails
pub tested : (b : Bool) → T b ⊎ (T b → ⊥)
tested true = inl tt
tested false = inr (λ t. t)

pub T_eq : (b c : Bool) → (T b → T c) → (T c → T b) → b ≡ c
T_eq true true f g = refl
T_eq true false f g = absurd (f tt)
T_eq false true f g = absurd (g tt)
T_eq false false f g = refl

-- ---- two numbers

pub eqb_on : (m n : ℕ) → m ≡ n → eqb m n ≡ true
eqb_on m n e = T_eq (eqb m n) true (λ t. tt) (λ t. subst (λ (z : ℕ). T (eqb m z)) e (eqb_refl m))

pub eqb_off : (m n : ℕ) → m ≢ n → eqb m n ≡ false
eqb_off m n e = T_eq (eqb m n) false (λ t. e (eqb→eq m n t)) (λ t. absurd t)

-- the test that two numbers differ
pub ne_test : (m n : ℕ) → m ≢ n → T (not (eqb m n))
ne_test m n e = not_T (eqb m n) (λ t. e (eqb→eq m n t))

pub test_ne : (m n : ℕ) → T (not (eqb m n)) → m ≢ n
test_ne m n t e = T_not (eqb m n) t (subst T (sym (eqb_on m n e)) tt)

-- ---- some number below n

pub any_intro : (n : ℕ) (p : ℕ → Bool) (k : ℕ) → k < n → T (p k) → T (any n p)
unfolding any
any_intro zero p k l t = absurd (not-suc-le-zero l)
any_intro (suc n) p k l t = go (ℕ_discrete n k) (λ m. any_intro n p k m t)
  where
    go : Dec (n ≡ k) → (k < n → T (any n p)) → T (either (any n p) (p n))
    go (yes e) rec = either_right (any n p) (p n) (subst (λ (z : ℕ). T (p z)) (sym e) t)
    go (no e) rec = either_left (any n p) (p n) (rec (omega arith))

pub any_elim : (n : ℕ) (p : ℕ → Bool) → T (any n p) → (k : ℕ) × (k < n) × T (p k)
unfolding any
any_elim zero p t = absurd t
any_elim (suc n) p t = go (any_elim n p) (either_cases (any n p) (p n) t)
  where
    go : (T (any n p) → (k : ℕ) × (k < n) × T (p k)) → T (any n p) ⊎ T (p n) → (k : ℕ) × (k < suc n) × T (p k)
    go rec (inl h) = let r = rec h in (r.0, omega (arith, r.1), r.2)
    go rec (inr h) = (n, le_refl (suc n), h)
