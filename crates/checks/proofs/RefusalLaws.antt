-- Refusals: at most one is due, and an input without faults is an accepted one.
-- Assumes nothing.
--
--   refusal_unique       no two refusals are due
--   refusal_faultless    none is due where there is no fault
--   fault_range          refusals have the numbers 1 to 8
--   due_refused, due_none   what a number says that is due, above 0 and 0
--   due_unique           two numbers that are due are equal
--   due_settled          so two results of `refusal` are equal
--   faultless-..         what an input without faults is, fault by fault
use mathlib.Core.Path.{◌≡◌, refl}
use mathlib.Core.Logic.{◌≢◌}
use mathlib.Core.List.{List}
use Prim.Native.Nat.{ℕ, suc, ◌*◌, ◌^◌, ◌<◌, ◌≤◌}
use native.Mathlib.Omega.{arith}
use native.Mathlib.Decide.{ℕ_discrete, dec_lt}
use lib.Dec.{T}
use lib.ListN.{length}
use Rattle.std.specs.Prelude.{Result}
use Rattle.reasons.specs.declared.Reason.{Reason}
use Rattle.reasons.specs.Numbers.{refusal_number}
use Rattle.reasons.proofs.NumberLaws.{refusal_one}
use Rattle.sums.specs.Sum.{sum}
use Rattle.graph.specs.Waits.{waits, Jobs}
use Rattle.network.specs.Costs.{cost_at}
use Rattle.checks.specs.Refusals.{Fault, Refusal, Faultless, Due}
use Rattle.checks.specs.Refusals.Due.{refused, none}
use Rattle.checks.specs.Refusals.Fault.{empty, crowded, uneven, short, stray, looped, absent, free, dear, heavy}

module _ (rows costs : List ℕ) (τ work : ℕ) where
  pub refusal_unique : (j k : ℕ) → Refusal rows costs τ work j → Refusal rows costs τ work k → j ≡ k
  refusal_unique j k a b = go (dec_lt j k) (dec_lt k j)
    where
      go : Dec (j < k) → Dec (k < j) → j ≡ k
      go (yes l) m = absurd (b.first j l a.fault)
      go (no l) (yes m) = absurd (a.first k m b.fault)
      go (no l) (no m) = omega arith

  pub refusal_faultless : (k : ℕ) → Refusal rows costs τ work k → Faultless rows costs τ work → ⊥
  refusal_faultless k a f = f k a.fault

  -- no refusal has the number 0 or one above 8
  pub fault_range : (k : ℕ) → Fault rows costs τ work k → (0 < k) × (k ≤ 8)
  fault_range k (empty e) = (omega arith, omega arith)
  fault_range k (crowded e) = (omega arith, omega arith)
  fault_range k (uneven e) = (omega arith, omega arith)
  fault_range k (short e) = (omega arith, omega arith)
  fault_range k (stray j i w l) = (omega arith, omega arith)
  fault_range k (looped j w) = (omega arith, omega arith)
  fault_range k (absent l) = (omega arith, omega arith)
  fault_range k (free j l e) = (omega arith, omega arith)
  fault_range k (dear j l e) = (omega arith, omega arith)
  fault_range k (heavy l) = (omega arith, omega arith)

  -- ---- what is due

  pub due_refused : (k : ℕ) → Due rows costs τ work k → k ≢ 0 → Refusal rows costs τ work k
  due_refused k (refused m r) ne = r
  due_refused k (none f) ne = absurd (ne refl)

  pub due_none : (k : ℕ) → Due rows costs τ work k → k ≡ 0 → Faultless rows costs τ work
  due_none k (refused m r) e = let l = fault_range m r.fault in absurd (omega (arith, l.0))
  due_none k (none f) e = f

  pub due_unique : (j k : ℕ) → Due rows costs τ work j → Due rows costs τ work k → j ≡ k
  due_unique j k (refused l a) (refused m b) = refusal_unique l m a b
  due_unique j k (refused l a) (none f) = absurd (f l a.fault)
  due_unique j k (none f) (refused m b) = absurd (f m b.fault)
  due_unique j k (none f) (none g) = refl

  pub due_settled : (a b : Result (Unit {0}) Reason) → Due rows costs τ work (refusal_number a) → Due rows costs τ work (refusal_number b) → a ≡ b
  due_settled a b p q = refusal_one a b (due_unique (refusal_number a) (refusal_number b) p q)

  -- ---- what an input without faults is

  module _ (f : Faultless rows costs τ work) where
    pub faultless_some : 0 < length rows
    faultless_some = go (ℕ_discrete (length rows) 0)
      where
        go : Dec (length rows ≡ 0) → 0 < length rows
        go (yes e) = absurd (f 1 (empty e))
        go (no e) = omega arith

    pub faultless_few : length rows ≤ 64
    faultless_few = go (dec_lt 64 (length rows))
      where
        go : Dec (64 < length rows) → length rows ≤ 64
        go (yes l) = absurd (f 1 (crowded l))
        go (no l) = omega arith

    pub faultless_priced : length costs ≡ length rows
    faultless_priced = go (ℕ_discrete (length costs) (length rows))
      where
        go : Dec (length costs ≡ length rows) → length costs ≡ length rows
        go (yes e) = e
        go (no e) = absurd (f 2 (uneven e))

    pub faultless_job : τ < length rows
    faultless_job = go (dec_lt τ (length rows))
      where
        go : Dec (τ < length rows) → τ < length rows
        go (yes l) = l
        go (no l) = absurd (f 6 (absent (omega arith)))

    pub faultless_apart : (u : ℕ) → T (waits rows u u) → ⊥
    faultless_apart u t = f 5 (looped u t)

    pub faultless_positive : (u : ℕ) → u < length rows → 0 < cost_at costs u
    faultless_positive u l = go (ℕ_discrete (cost_at costs u) 0)
      where
        go : Dec (cost_at costs u ≡ 0) → 0 < cost_at costs u
        go (yes e) = absurd (f 7 (free u l e))
        go (no e) = omega arith

    pub faultless_bounded : suc (sum (length rows) (cost_at costs)) ≤ 2 ^ 63
    faultless_bounded = go (dec_lt (2 ^ 63) (suc (sum (length rows) (cost_at costs))))
      where
        go : Dec (2 ^ 63 < suc (sum (length rows) (cost_at costs))) → suc (sum (length rows) (cost_at costs)) ≤ 2 ^ 63
        go (yes l) = absurd (f 8 (heavy l))
        go (no l) = omega arith

    pub faultless_jobs : Jobs rows
    faultless_jobs = record { few = faultless_few; known = λ j i t. go j i t (dec_lt i (length rows)) }
      where
        go : (j i : ℕ) → T (waits rows j i) → Dec (i < length rows) → i < length rows
        go j i t (yes l) = l
        go j i t (no l) = absurd (f 4 (stray j i t (omega arith)))

    pub faultless_size : length rows * length rows ≤ work
    faultless_size = go (dec_lt work (length rows * length rows))
      where
        go : Dec (work < length rows * length rows) → length rows * length rows ≤ work
        go (yes l) = absurd (f 3 (short l))
        go (no l) = omega arith
