-- The entry's refusals: at most one is due, and the chain of checks finds it.
-- Assumes nothing.
--
--   count                    n, the number of rows: the numbers of a list of bytes are an eighth of them
--   square_under             n × n is at most k × k
--   refusal_unique           no two refusals are due
--   Passed .. m              the byte checks of the refusals before m were passed, m at most 3
--   passed_1 .. passed_3     one check more
--   refuse_byte              a fault found then is the refusal that is due
--   shaped                   after all byte checks the lists have their shape
--   refuse_number            a refusal of the verdict call on the numbers is due here too
--   shaped_faultless         and where that call has no fault there is none here
use mathlib.Core.Path.{◌≡◌, sym, ap, ◌∙◌, subst}
use mathlib.Core.Logic.{◌≢◌}
use mathlib.Core.List.{List}
use Prim.Native.Nat.{ℕ, ◌*◌, ◌/◌, ◌%◌, ◌<◌, ◌≤◌}
use native.Mathlib.Nat.{le_refl, mul-le-mul}
use native.Mathlib.Omega.{arith}
use native.Mathlib.Decide.{ℕ_discrete, dec_lt}
use lib.ListN.{length}
use Rattle.lists.specs.Numbers.{numbers_of}
use Rattle.lists.proofs.ReadLaws.{numbers_length}
use Rattle.checks.specs.Refusals.{Fault, Refusal, Faultless}
use Rattle.checks.specs.Refusals.Fault.{empty, crowded, uneven, short, stray, looped, absent, free, dear, heavy}
use Rattle.bytewise.specs.Faults.{EntryFault, EntryRefusal, EntryFaultless, Shaped}
use Rattle.bytewise.specs.Faults.EntryFault.{broken_rows, broken_costs, narrow, of_numbers}

pub count : (bytes : List ℕ) → length (numbers_of bytes) ≡ length bytes / 8
count bytes = numbers_length (length bytes / 8) bytes

pub square_under : (n k : ℕ) → n ≤ k → n * n ≤ k * k
square_under n k l = mul-le-mul l l

-- where there is room for n × n flows, how much room there is does not matter
fault_room : (rows costs : List ℕ) (τ w w' k : ℕ) → length rows * length rows ≤ w → Fault rows costs τ w k → Fault rows costs τ w' k
fault_room rows costs τ w w' k room (empty e) = empty e
fault_room rows costs τ w w' k room (crowded l) = crowded l
fault_room rows costs τ w w' k room (uneven e) = uneven e
fault_room rows costs τ w w' k room (short l) = absurd (omega arith)
fault_room rows costs τ w w' k room (stray j i t l) = stray j i t l
fault_room rows costs τ w w' k room (looped j t) = looped j t
fault_room rows costs τ w w' k room (absent l) = absent l
fault_room rows costs τ w w' k room (free j l e) = free j l e
fault_room rows costs τ w w' k room (dear j l e) = dear j l e
fault_room rows costs τ w w' k room (heavy l) = heavy l

pub record Passed (rows costs : List ℕ) (m : ℕ) : Type 0 where
  pub early : m ≤ 3
  pub full : 1 < m → length rows % 8 ≡ 0
  pub some : 1 < m → 0 < length rows / 8
  pub few : 1 < m → length rows / 8 ≤ 64
  pub priced : 2 < m → length costs ≡ length rows

module _ (rows costs : List ℕ) (τ work answer : ℕ) where
  pub refusal_unique : (j k : ℕ) → EntryRefusal rows costs τ work answer j → EntryRefusal rows costs τ work answer k → j ≡ k
  refusal_unique j k a b = go (dec_lt j k) (dec_lt k j)
    where
      go : Dec (j < k) → Dec (k < j) → j ≡ k
      go (yes l) m = absurd (b.first j l a.fault)
      go (no l) (yes m) = absurd (a.first k m b.fault)
      go (no l) (no m) = omega arith

  -- ---- the byte checks

  numbers_first : (m : ℕ) → Passed rows costs m → (j : ℕ) → j < m → Fault (numbers_of rows) (numbers_of costs) τ (work / 8) j → ⊥
  numbers_first m P j l (empty e) = omega (arith, count rows, P.some l)
  numbers_first m P j l (crowded e) = omega (arith, count rows, P.few l)
  numbers_first m P j l (uneven e) = e (count costs ∙ ap (λ (z : ℕ). z / 8) (P.priced l) ∙ sym (count rows))
  numbers_first m P j l (short e) = omega (arith, P.early)
  numbers_first m P j l (stray a b t e) = omega (arith, P.early)
  numbers_first m P j l (looped a t) = omega (arith, P.early)
  numbers_first m P j l (absent e) = omega (arith, P.early)
  numbers_first m P j l (free a i e) = omega (arith, P.early)
  numbers_first m P j l (dear a i e) = omega (arith, P.early)
  numbers_first m P j l (heavy e) = omega (arith, P.early)

  pub passed_first : (m : ℕ) → Passed rows costs m → (j : ℕ) → j < m → EntryFault rows costs τ work answer j → ⊥
  passed_first m P j l (broken_rows e) = e (P.full l)
  passed_first m P j l (broken_costs e) = e (omega (arith, P.priced l, P.full (omega arith)))
  passed_first m P j l (narrow e) = omega (arith, P.early)
  passed_first m P j l (of_numbers k f) = numbers_first m P k l f

  pub refuse_byte : (m : ℕ) → Passed rows costs m → EntryFault rows costs τ work answer m → EntryRefusal rows costs τ work answer m
  refuse_byte m P f = record { fault = f; first = passed_first m P }

  -- the faults that the checks find
  pub fault_empty : length rows / 8 ≡ 0 → EntryFault rows costs τ work answer 1
  fault_empty e = of_numbers 1 (empty (count rows ∙ e))

  pub fault_crowded : 64 < length rows / 8 → EntryFault rows costs τ work answer 1
  fault_crowded l = of_numbers 1 (crowded (omega (arith, count rows)))

  pub fault_uneven : length rows % 8 ≡ 0 → length costs ≢ length rows → EntryFault rows costs τ work answer 2
  fault_uneven full e = go (ℕ_discrete (length costs % 8) 0)
    where
      go : Dec (length costs % 8 ≡ 0) → EntryFault rows costs τ work answer 2
      go (yes f) = of_numbers 2 (uneven (λ q. e (omega (arith, count rows, count costs, q))))
      go (no f) = broken_costs f

  pub fault_short : work / 8 < length rows / 8 * (length rows / 8) → EntryFault rows costs τ work answer 3
  fault_short l = of_numbers 3 (short (subst (λ (z : ℕ). work / 8 < z * z) (sym (count rows)) l))

  -- ---- behind them

  module _ (S : Shaped rows costs work answer) where
    square : length (numbers_of rows) * length (numbers_of rows) ≤ work / 8
    square = subst (λ (z : ℕ). z * z ≤ work / 8) (sym (count rows)) S.room

    -- a fault is one of the numbers
    of_numbers_lem : (k : ℕ) → EntryFault rows costs τ work answer k → Fault (numbers_of rows) (numbers_of costs) τ (length (numbers_of rows) * length (numbers_of rows)) k
    of_numbers_lem k (broken_rows e) = absurd (e S.full)
    of_numbers_lem k (broken_costs e) = absurd (e (omega (arith, S.priced, S.full)))
    of_numbers_lem k (narrow l) = absurd (omega (arith, S.places))
    of_numbers_lem k (of_numbers j f) = fault_room (numbers_of rows) (numbers_of costs) τ (work / 8) (length (numbers_of rows) * length (numbers_of rows)) j square f

    pub refuse_number : (k : ℕ) → Refusal (numbers_of rows) (numbers_of costs) τ (length (numbers_of rows) * length (numbers_of rows)) k → EntryRefusal rows costs τ work answer k
    refuse_number k R = record {
      fault = of_numbers k (fault_room (numbers_of rows) (numbers_of costs) τ (length (numbers_of rows) * length (numbers_of rows)) (work / 8) k (le_refl _) R.fault);
      first = λ j l f. R.first j l (of_numbers_lem j f);
    }

    pub shaped_faultless : Faultless (numbers_of rows) (numbers_of costs) τ (length (numbers_of rows) * length (numbers_of rows)) → EntryFaultless rows costs τ work answer
    shaped_faultless f k e = f k (of_numbers_lem k e)

-- ---- one check more

module _ (rows costs : List ℕ) where
  pub passed_1 : Passed rows costs 1
  passed_1 = record {
    early = omega arith;
    full = λ l. absurd (omega arith);
    some = λ l. absurd (omega arith);
    few = λ l. absurd (omega arith);
    priced = λ l. absurd (omega arith);
  }

  pub passed_2 : length rows % 8 ≡ 0 → length rows / 8 ≢ 0 → length rows / 8 ≤ 64 → Passed rows costs 2
  passed_2 a b c = record {
    early = omega arith;
    full = λ l. a;
    some = λ l. omega arith;
    few = λ l. c;
    priced = λ l. absurd (omega arith);
  }

  pub passed_3 : Passed rows costs 2 → length costs ≡ length rows → Passed rows costs 3
  passed_3 P a = record {
    early = omega arith;
    full = λ l. P.full (omega arith);
    some = λ l. P.some (omega arith);
    few = λ l. P.few (omega arith);
    priced = λ l. a;
  }

  pub shaped : (work answer : ℕ) → Passed rows costs 3 → 22 ≤ answer → length rows / 8 * (length rows / 8) ≤ work / 8 → Shaped rows costs work answer
  shaped work answer P a b = record {
    full = P.full (omega arith);
    some = P.some (omega arith);
    few = P.few (omega arith);
    priced = P.priced (omega arith);
    room = b;
    places = a;
  }
