-- The pool states of a job frame, pool by pool.
-- Assumes nothing.
--
--   waits_none, waits_next   the waits at no pool, and at one pool more
--   waits_small              a job waits at no more pools than there are
--   state_steps              these for the tactics
--   above_is                 what the states that were looked at say of them all
use mathlib.Core.Path.{◌≡◌, refl, sym, subst}
use mathlib.Core.Bool.{Bool, true, false, cond}
use mathlib.Core.List.{List}
use Prim.Native.Nat.{ℕ, zero, suc, ◌+◌, ◌<◌, ◌≤◌}
use native.Mathlib.Omega.{arith}
use lib.Dec.{T, eqb, ltb}
use Rattle.sums.specs.Tests.{any}
use Rattle.sums.specs.Sum.{gate, sum, count}
use Rattle.sums.proofs.TestLaws.{T_eq, any_intro, any_elim}
use Rattle.sums.proofs.SumLaws.{gate_le}
use Rattle.std.proofs.lemmas.Bool.Decides.{nat_tests}
use Rattle.frames.specs.Fields.{state_byte}
use Rattle.faults.specs.JobFault.{state_above, waits_in}

pub waits_none : (t : List ℕ) (at : ℕ) → waits_in t at 0 ≡ 0
unfolding waits_in count sum
waits_none t at = refl

pub waits_next : (t : List ℕ) (at p : ℕ) → waits_in t at (p + 1) ≡ waits_in t at p + cond (eqb (state_byte t at p) 2) 1 0
unfolding waits_in count sum
waits_next t at p = let s : p + 1 ≡ suc p = omega arith in rw s (go (eqb (state_byte t at p) 2))
  where
    go : (b : Bool) → sum p (λ i. gate (eqb (state_byte t at i) 2) 1) + gate b 1 ≡ sum p (λ i. gate (eqb (state_byte t at i) 2) 1) + cond b 1 0
    go true = refl
    go false = refl

pub waits_small : (t : List ℕ) (at s : ℕ) → waits_in t at s ≤ s
unfolding waits_in count sum
waits_small t at zero = omega arith
waits_small t at (suc s) = omega (arith, waits_small t at s, gate_le (eqb (state_byte t at s) 2) 1)

pub ruleset state_steps = (nat_tests, waits_none, waits_next, waits_small)

pub above_is : (t : List ℕ) (at s : ℕ) (b : Bool) → (b ≡ true → (p : ℕ) × (p < s) × (ltb 2 (state_byte t at p) ≡ true)) → (b ≡ false → (p : ℕ) → p < s → ltb 2 (state_byte t at p) ≡ false) → b ≡ state_above t at s
unfolding state_above
above_is t at s true f g = let k = f refl in T_eq true (any s (λ p. ltb 2 (state_byte t at p))) (λ _. any_intro s (λ p. ltb 2 (state_byte t at p)) k.0 k.1 (subst T (sym k.2) tt)) (λ _. tt)
above_is t at s false f g = T_eq false (any s (λ p. ltb 2 (state_byte t at p))) (λ x. absurd x)
    (λ x. let k = any_elim s (λ p. ltb 2 (state_byte t at p)) x in subst T (g refl k.0 k.1) k.2)
