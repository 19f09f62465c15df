-- The least number below n that passes a test, computed.
-- Assumes nothing.
--
--   least n p        it, and n where there is none
--   least_bound      it is at most n
--   least_le         it is at most each number that passes
--   least_holds      below n it passes
use mathlib.Core.Path.{◌≡◌, refl, sym, subst}
use mathlib.Core.Bool.{Bool, true, false}
use Prim.Native.Nat.{ℕ, zero, suc, ◌≤◌, ◌<◌, zero-le}
use native.Mathlib.Nat.{not-suc-le-zero, le_of_suc-le-suc, le_refl}
use native.Mathlib.Omega.{arith}
use lib.Dec.{T}

abbrev pub keep : Bool → ℕ → ℕ
keep true x = 0
keep false x = suc x

unfoldable pub least : ℕ → (ℕ → Bool) → ℕ
least zero p = 0
least (suc n) p = keep (p 0) (least n (λ i. p (suc i)))

keep_on : (b : Bool) (x : ℕ) → T b → keep b x ≤ 0
keep_on true x t = zero-le
keep_on false x t = absurd t

keep_le : (b : Bool) (x : ℕ) → keep b x ≤ suc x
keep_le true x = zero-le
keep_le false x = le_refl (suc x)

pub least_bound : (n : ℕ) (p : ℕ → Bool) → least n p ≤ n
unfolding least
least_bound zero p = zero-le
least_bound (suc n) p = omega (arith, keep_le (p 0) (least n (λ i. p (suc i))), least_bound n (λ i. p (suc i)))

pub least_le : (n : ℕ) (p : ℕ → Bool) (k : ℕ) → T (p k) → least n p ≤ k
unfolding least
least_le zero p k t = zero-le
least_le (suc n) p zero t = keep_on (p 0) _ t
least_le (suc n) p (suc k) t = omega (arith, keep_le (p 0) (least n (λ i. p (suc i))), least_le n (λ i. p (suc i)) k t)

pub least_holds : (n : ℕ) (p : ℕ → Bool) → least n p < n → T (p (least n p))
unfolding least
least_holds zero p l = absurd (not-suc-le-zero l)
least_holds (suc n) p l = go (least_holds n (λ i. p (suc i))) (p 0) refl l
  where
    go : (least n (λ i. p (suc i)) < n → T (p (suc (least n (λ i. p (suc i)))))) → (b : Bool) → p 0 ≡ b → keep b (least n (λ i. p (suc i))) < suc n
        → T (p (keep b (least n (λ i. p (suc i)))))
    go rec true e m = subst T (sym e) tt
    go rec false e m = rec (le_of_suc-le-suc m)
