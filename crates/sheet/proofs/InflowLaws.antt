-- The loop of `inflow`: a sum collected term by term, and that it is one.
-- Assumes nothing.
--
--   inflow_below work n u v    what flows into u from the jobs below v
--   inflow_none, inflow_next, inflow_most, inflow_all    no job, one more, never more than all, all
--   inflow_laws                these four
--   inflow_unique              two results of `inflow` are equal
use mathlib.Core.Path.{◌≡◌, refl, sym, ap, ◌∙◌, subst}
use mathlib.Core.List.{List}
use Prim.Native.Nat.{ℕ, zero, suc, ◌+◌, ◌*◌, ◌<◌, ◌≤◌, zero-le}
use native.Mathlib.Nat.{le_refl}
use native.Mathlib.Numerals.{suc-eq-add-one}
use native.Mathlib.Decide.{ℕ_discrete}
use native.Mathlib.Omega.{arith}
use lib.ListN.{get_or}
use Rattle.sums.specs.Sum.{sum}
use Rattle.sheet.specs.Inflow.{inflow_of}

sum_part : (n k : ℕ) (f : ℕ → ℕ) → k ≤ n → sum k f ≤ sum n f
unfolding sum
sum_part zero k f l = (let e : 0 ≡ k = omega arith in subst (λ (z : ℕ). sum z f ≤ 0) e zero-le)
sum_part (suc n) k f l = go (ℕ_discrete k (suc n)) (λ m. sum_part n k f m)
  where
    go : Dec (k ≡ suc n) → (k ≤ n → sum k f ≤ sum n f) → sum k f ≤ sum n f + f n
    go (yes e) rec = subst (λ (z : ℕ). sum k f ≤ z) (ap (λ (z : ℕ). sum z f) e) (le_refl (sum k f))
    go (no e) rec = omega (arith, rec (omega arith))

unfoldable pub inflow_below : List ℕ → ℕ → ℕ → ℕ → ℕ
inflow_below work n u v = sum v (λ w. get_or work (w * n + u) 0)

pub inflow_none : (work : List ℕ) (n u : ℕ) → inflow_below work n u 0 ≡ 0
unfolding inflow_below sum
inflow_none work n u = refl

pub inflow_next : (work : List ℕ) (n u v : ℕ) → inflow_below work n u (v + 1) ≡ inflow_below work n u v + get_or work (v * n + u) 0
unfolding inflow_below sum
inflow_next work n u v = ap (λ (z : ℕ). sum z (λ w. get_or work (w * n + u) 0)) (sym (suc-eq-add-one v))

pub inflow_most : (work : List ℕ) (n u v : ℕ) → v < n → inflow_below work n u v + get_or work (v * n + u) 0 ≤ inflow_of work n u
unfolding inflow_below inflow_of sum
inflow_most work n u v l = sum_part n (suc v) (λ w. get_or work (w * n + u) 0) l

pub inflow_all : (work : List ℕ) (n u : ℕ) → inflow_below work n u n ≡ inflow_of work n u
unfolding inflow_below inflow_of
inflow_all work n u = refl

pub ruleset inflow_laws = (inflow_none, inflow_next, inflow_most, inflow_all)

pub inflow_unique : (work : List ℕ) (n u r q : ℕ) → r ≡ inflow_of work n u → q ≡ inflow_of work n u → r ≡ q
inflow_unique work n u r q e f = e ∙ sym f
