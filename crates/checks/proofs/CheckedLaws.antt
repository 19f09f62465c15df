-- The chain of refusals: what has been checked before refusal m, and that a fault found then is the refusal that is due.
-- Assumes nothing.
--
--   Checked rows costs τ work m      the checks of the refusals before m were passed
--   checked_1 .. checked_9           one check more
--   fault_4 .. fault_8               the fault that a check has found
--   checked_first                    so no fault of a smaller number is there
--   refuse                           a fault found then is the refusal that is due
--   due_crowded                      refusal 1 is due where there are more rows than 64
--   checked_faultless                after all checks there is no fault
use mathlib.Core.Path.{◌≡◌, refl, sym, ap, subst}
use mathlib.Core.Logic.{◌≢◌, ⊎_elim}
use mathlib.Core.Bool.{Bool, true, false}
use mathlib.Core.List.{List}
use Prim.Native.Nat.{ℕ, suc, ◌+◌, ◌*◌, ◌^◌, ◌<◌, ◌≤◌}
use native.Mathlib.Omega.{arith}
use lib.Dec.{T}
use lib.ListN.{length}
use Rattle.sums.specs.Sum.{sum}
use Rattle.sums.proofs.SumLaws.{sum_term}
use Rattle.graph.specs.Waits.{waits, Known}
use Rattle.graph.specs.Waits.Known.{all, stray as named}
use Rattle.network.specs.Costs.{cost_at}
use Rattle.checks.specs.Refusals.{Fault, Faultless, Due}
use Rattle.checks.specs.Refusals.Fault.{empty, crowded, uneven, short, stray, looped, absent, free, dear, heavy}
use Rattle.checks.specs.Refusals.Due.{refused}
use Rattle.checks.specs.Checks.{Looped, Summed}
use Rattle.checks.specs.Checks.Summed.{strayed, whole}
use Rattle.checks.proofs.RefusalLaws.{fault_range}

pub record Checked (rows costs : List ℕ) (τ work m : ℕ) : Type 0 where
  pub some : 1 < m → length rows ≢ 0
  pub few : 1 < m → length rows ≤ 64
  pub even : 2 < m → length costs ≡ length rows
  pub wide : 3 < m → length rows * length rows ≤ work
  pub known : 4 < m → (j i : ℕ) → T (waits rows j i) → i < length rows
  pub apart : 5 < m → (j : ℕ) → T (waits rows j j) → ⊥
  pub there : 6 < m → τ < length rows
  pub fit : 7 < m → (j : ℕ) → j < length rows → (0 < cost_at costs j) × (cost_at costs j ≤ 2 ^ 42)
  pub light : 8 < m → suc (sum (length rows) (cost_at costs)) ≤ 2 ^ 63

module _ (rows costs : List ℕ) (τ work : ℕ) where
  pub checked_first : (m : ℕ) → Checked rows costs τ work m → (j : ℕ) → j < m → Fault rows costs τ work j → ⊥
  checked_first m C j l (empty e) = C.some l e
  checked_first m C j l (crowded e) = omega (arith, C.few l)
  checked_first m C j l (uneven e) = e (C.even l)
  checked_first m C j l (short e) = omega (arith, C.wide l)
  checked_first m C j l (stray a b w e) = omega (arith, C.known l a b w)
  checked_first m C j l (looped a w) = C.apart l a w
  checked_first m C j l (absent e) = omega (arith, C.there l)
  checked_first m C j l (free a i e) = omega (arith, (C.fit l a i).0)
  checked_first m C j l (dear a i e) = omega (arith, (C.fit l a i).1)
  checked_first m C j l (heavy e) = omega (arith, C.light l)

  pub checked_faultless : Checked rows costs τ work 9 → Faultless rows costs τ work
  checked_faultless C k f = let r = fault_range rows costs τ work k f in checked_first 9 C k (omega (arith, r.1)) f

  -- ---- one check more

  pub checked_1 : Checked rows costs τ work 1
  checked_1 = record {
    some = λ l. absurd (omega arith);
    few = λ l. absurd (omega arith);
    even = λ l. absurd (omega arith);
    wide = λ l. absurd (omega arith);
    known = λ l. absurd (omega arith);
    apart = λ l. absurd (omega arith);
    there = λ l. absurd (omega arith);
    fit = λ l. absurd (omega arith);
    light = λ l. absurd (omega arith);
  }

  pub checked_2 : length rows ≢ 0 → length rows ≤ 64 → Checked rows costs τ work 2
  checked_2 a b = record {
    some = λ l. a;
    few = λ l. b;
    even = λ l. absurd (omega arith);
    wide = λ l. absurd (omega arith);
    known = λ l. absurd (omega arith);
    apart = λ l. absurd (omega arith);
    there = λ l. absurd (omega arith);
    fit = λ l. absurd (omega arith);
    light = λ l. absurd (omega arith);
  }

  pub checked_3 : Checked rows costs τ work 2 → length costs ≡ length rows → Checked rows costs τ work 3
  checked_3 C a = record {
    some = λ l. C.some (omega arith);
    few = λ l. C.few (omega arith);
    even = λ l. a;
    wide = λ l. absurd (omega arith);
    known = λ l. absurd (omega arith);
    apart = λ l. absurd (omega arith);
    there = λ l. absurd (omega arith);
    fit = λ l. absurd (omega arith);
    light = λ l. absurd (omega arith);
  }

  pub checked_4 : Checked rows costs τ work 3 → length rows * length rows ≤ work → Checked rows costs τ work 4
  checked_4 C a = record {
    some = λ l. C.some (omega arith);
    few = λ l. C.few (omega arith);
    even = λ l. C.even (omega arith);
    wide = λ l. a;
    known = λ l. absurd (omega arith);
    apart = λ l. absurd (omega arith);
    there = λ l. absurd (omega arith);
    fit = λ l. absurd (omega arith);
    light = λ l. absurd (omega arith);
  }

  pub checked_5 : (b : Bool) → Checked rows costs τ work 4 → Known rows b → b ≡ true → Checked rows costs τ work 5
  checked_5 true C (all k) e = record {
    some = λ l. C.some (omega arith);
    few = λ l. C.few (omega arith);
    even = λ l. C.even (omega arith);
    wide = λ l. C.wide (omega arith);
    known = λ l. k;
    apart = λ l. absurd (omega arith);
    there = λ l. absurd (omega arith);
    fit = λ l. absurd (omega arith);
    light = λ l. absurd (omega arith);
  }
  checked_5 false C k e = absurd (subst T (sym e) tt)

  pub checked_6 : (b : Bool) → Checked rows costs τ work 5 → Looped rows b → b ≡ false → Checked rows costs τ work 6
  checked_6 true C k e = absurd (subst T e tt)
  checked_6 false C (Looped.none k) e = record {
    some = λ l. C.some (omega arith);
    few = λ l. C.few (omega arith);
    even = λ l. C.even (omega arith);
    wide = λ l. C.wide (omega arith);
    known = λ l. C.known (omega arith);
    apart = λ l. k;
    there = λ l. absurd (omega arith);
    fit = λ l. absurd (omega arith);
    light = λ l. absurd (omega arith);
  }

  pub checked_7 : Checked rows costs τ work 6 → τ < length rows → Checked rows costs τ work 7
  checked_7 C a = record {
    some = λ l. C.some (omega arith);
    few = λ l. C.few (omega arith);
    even = λ l. C.even (omega arith);
    wide = λ l. C.wide (omega arith);
    known = λ l. C.known (omega arith);
    apart = λ l. C.apart (omega arith);
    there = λ l. a;
    fit = λ l. absurd (omega arith);
    light = λ l. absurd (omega arith);
  }

  pub checked_8 : (s : ℕ) → Checked rows costs τ work 7 → Summed costs s → s ≢ 0 → Checked rows costs τ work 8
  checked_8 s C (strayed j l k) ne = absurd (ne refl)
  checked_8 s C (whole k) ne = record {
    some = λ l. C.some (omega arith);
    few = λ l. C.few (omega arith);
    even = λ l. C.even (omega arith);
    wide = λ l. C.wide (omega arith);
    known = λ l. C.known (omega arith);
    apart = λ l. C.apart (omega arith);
    there = λ l. C.there (omega arith);
    fit = λ l j i. k j (omega (arith, C.even (omega arith)));
    light = λ l. absurd (omega arith);
  }

  -- the sum that was added up is that of all jobs
  pub checked_sum : Checked rows costs τ work 8 → (s : ℕ) → Summed costs s → s ≢ 0 → s + 1 ≡ suc (sum (length rows) (cost_at costs))
  checked_sum C s (strayed j l k) ne = absurd (ne refl)
  checked_sum C s (whole k) ne =
      let q = ap (λ (z : ℕ). sum z (cost_at costs)) (C.even (omega arith)) in
      omega (arith, q)

  pub checked_9 : Checked rows costs τ work 8 → (s : ℕ) → Summed costs s → s ≢ 0 → s + 1 ≤ 2 ^ 63 → Checked rows costs τ work 9
  checked_9 C s e ne a = record {
    some = λ l. C.some (omega arith);
    few = λ l. C.few (omega arith);
    even = λ l. C.even (omega arith);
    wide = λ l. C.wide (omega arith);
    known = λ l. C.known (omega arith);
    apart = λ l. C.apart (omega arith);
    there = λ l. C.there (omega arith);
    fit = λ l. C.fit (omega arith);
    light = λ l. subst (λ (z : ℕ). z ≤ 2 ^ 63) (checked_sum C s e ne) a;
  }

  -- at most 64 costs can be added up
  pub checked_few : Checked rows costs τ work 7 → length costs ≤ 64
  checked_few C = omega (arith, C.even (omega arith), C.few (omega arith))

  -- ---- the faults that the checks find

  pub fault_4 : (b : Bool) → Known rows b → b ≡ false → Fault rows costs τ work 4
  fault_4 true k e = absurd (subst T e tt)
  fault_4 false (named j i w l) e = stray j i w l

  pub fault_5 : (b : Bool) → Looped rows b → b ≡ true → Fault rows costs τ work 5
  fault_5 true (Looped.some j w) e = looped j w
  fault_5 false k e = absurd (subst T (sym e) tt)

  pub fault_7 : (s : ℕ) → Checked rows costs τ work 7 → Summed costs s → s ≡ 0 → Fault rows costs τ work 7
  fault_7 s C (strayed j l k) e = let m : j < length rows = omega (arith, C.even (omega arith)) in ⊎_elim (free j m) (dear j m) k
  fault_7 s C (whole k) e =
      let l : 0 < length costs = (let n = C.some (omega arith) in omega (arith, C.even (omega arith))) in
      absurd (omega (arith, e, (k 0 l).0, sum_term (length costs) (cost_at costs) 0 l))

  pub fault_8 : Checked rows costs τ work 8 → (s : ℕ) → Summed costs s → s ≢ 0 → 2 ^ 63 < s + 1 → Fault rows costs τ work 8
  fault_8 C s e ne l = heavy (subst (λ (z : ℕ). 2 ^ 63 < z) (checked_sum C s e ne) l)

  -- a fault found after the checks before it is the refusal that is due
  pub refuse : (k : ℕ) → Checked rows costs τ work k → Fault rows costs τ work k → Due rows costs τ work k
  refuse k C f = refused k (record { fault = f; first = checked_first k C })

  -- the first refusal, for more rows than 64
  pub due_crowded : 64 < length rows → Due rows costs τ work 1
  due_crowded l = refuse 1 checked_1 (crowded l)
