-- The pigeonhole: m different numbers below N are at most N. So a queue of N places never overflows.
-- Assumes nothing.
--
--   Distinct m Q     the first m of the numbers Q 0, Q 1, .. are different
--   distinct_le      below N there are at most N of them
--   distinct_add     one more number that is not among them
use mathlib.Core.Path.{◌≡◌, sym, ap, ◌∙◌}
use mathlib.Core.Logic.{◌≢◌}
use mathlib.Core.Bool.{Bool}
use Prim.Native.Nat.{ℕ, zero, suc, ◌≤◌, ◌<◌}
use native.Mathlib.Nat.{le_refl}
use native.Mathlib.Decide.{ℕ_discrete}
use native.Mathlib.Omega.{arith}
use lib.Dec.{T, eqb, eqb→eq, eqb_refl}
use Rattle.sums.specs.Tests.{any}
use Rattle.sums.specs.Sum.{sum, gate}
use Rattle.sums.proofs.TestLaws.{T_eq, any_intro, any_elim}
use Rattle.sums.proofs.SumLaws.{sum_mono, sum_const, sum_point, gate_on, gate_off, gate_le}

abbrev pub Distinct : ℕ → (ℕ → ℕ) → Type 0
Distinct m Q = (i j : ℕ) → i < j → j < m → Q i ≢ Q j

-- x is one of the first m
abbrev held : ℕ → (ℕ → ℕ) → ℕ → Bool
held m Q x = any m (λ k. eqb (Q k) x)

tally : (N m : ℕ) (Q : ℕ → ℕ) → Distinct m Q → ((k : ℕ) → k < m → Q k < N) → sum N (λ x. gate (held m Q x) 1) ≡ m
tally N zero Q d h = omega (arith, sum_mono N (λ x. gate (held 0 Q x) 1) (λ x. 0) (λ x l. none x), sum_const N 0)
  where
    none : (x : ℕ) → gate (held 0 Q x) 1 ≤ 0
    none x = omega (arith, gate_off (held 0 Q x) 1 (λ t. let k = any_elim 0 (λ k. eqb (Q k) x) t in omega (arith, k.1)))
tally N (suc m) Q d h =
    let r = tally N m Q (λ i j a b. d i j a (omega arith)) (λ k l. h k (omega arith)) in
    let on : gate (held (suc m) Q (Q m)) 1 ≡ 1 = gate_on (held (suc m) Q (Q m)) 1 (any_intro (suc m) (λ k. eqb (Q k) (Q m)) m (le_refl (suc m)) (eqb_refl (Q m))) in
    let off : gate (held m Q (Q m)) 1 ≡ 0 = gate_off (held m Q (Q m)) 1 (λ t. let k = any_elim m (λ k. eqb (Q k) (Q m)) t in d k.0 m k.1 (le_refl (suc m)) (eqb→eq (Q k.0) (Q m) k.2)) in
    omega (arith, r, sum_point N (λ x. gate (held (suc m) Q x) 1) (λ x. gate (held m Q x) 1) (Q m) 0 1 (h m (le_refl (suc m))) (λ x l ne. ap (λ (b : Bool). gate b 1) (same x ne)) (omega arith))
  where
    same : (x : ℕ) → x ≢ Q m → held (suc m) Q x ≡ held m Q x
    same x ne = T_eq (held (suc m) Q x) (held m Q x)
        (λ t. let k = any_elim (suc m) (λ k. eqb (Q k) x) t in old k.0 k.1 k.2 (ℕ_discrete k.0 m))
        (λ t. let k = any_elim m (λ k. eqb (Q k) x) t in any_intro (suc m) (λ k. eqb (Q k) x) k.0 (omega (arith, k.1)) k.2)
      where
        old : (k : ℕ) → k < suc m → T (eqb (Q k) x) → Dec (k ≡ m) → T (held m Q x)
        old k l t (yes e) = absurd (ne (sym (eqb→eq (Q k) x t) ∙ ap Q e))
        old k l t (no e) = any_intro m (λ j. eqb (Q j) x) k (omega arith) t

pub distinct_le : (N m : ℕ) (Q : ℕ → ℕ) → Distinct m Q → ((k : ℕ) → k < m → Q k < N) → m ≤ N
distinct_le N m Q d h = omega (arith, tally N m Q d h, sum_mono N (λ x. gate (held m Q x) 1) (λ x. 1) (λ x l. gate_le (held m Q x) 1), sum_const N 1)

-- one more number, not among them
pub distinct_add : (m y : ℕ) (Q Q' : ℕ → ℕ) → Distinct m Q → ((k : ℕ) → k < m → Q' k ≡ Q k) → Q' m ≡ y → ((k : ℕ) → k < m → Q k ≢ y) → Distinct (suc m) Q'
distinct_add m y Q Q' d same at new i j l h e = go (ℕ_discrete j m)
  where
    go : Dec (j ≡ m) → ⊥
    go (yes q) = new i (omega arith) (sym (same i (omega arith)) ∙ e ∙ ap Q' q ∙ at)
    go (no q) = d i j l (omega arith) (sym (same i (omega arith)) ∙ e ∙ same j (omega arith))
