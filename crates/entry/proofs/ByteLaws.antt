-- The byte checks of the C entry, each with the refusal that it finds: nothing is written, and its number is returned.
-- Assumes nothing.
--
--   entered_broken, entered_empty, entered_crowded    refusal 1
--   entered_uneven                                    refusal 2
--   entered_narrow, entered_short                     refusal 3
--   byte_refusals                                     these six
use mathlib.Core.Path.{◌≡◌}
use mathlib.Core.Logic.{◌≢◌}
use mathlib.Core.List.{List}
use Prim.Native.Nat.{ℕ, ◌*◌, ◌/◌, ◌%◌, ◌<◌, ◌≤◌}
use lib.ListN.{length}
use Rattle.bytewise.specs.Faults.EntryFault.{broken_rows, narrow}
use Rattle.bytewise.specs.Entered.{Entered}
use Rattle.bytewise.proofs.FaultLaws.{Passed, passed_1, passed_2, passed_3, fault_empty, fault_crowded, fault_uneven, fault_short}
use Rattle.bytewise.proofs.EnteredLaws.{refused_byte}

module _ (rows costs : List ℕ) (τ allowance : ℕ) (work answer : List ℕ) where
  pub entered_broken : length rows % 8 ≢ 0 → Entered rows costs τ allowance work answer 1 work answer
  entered_broken e = refused_byte rows costs τ allowance work answer 1 (passed_1 rows costs) (broken_rows e)

  pub entered_empty : length rows / 8 ≡ 0 → Entered rows costs τ allowance work answer 1 work answer
  entered_empty e = refused_byte rows costs τ allowance work answer 1 (passed_1 rows costs) (fault_empty rows costs τ (length work) (length answer) e)

  pub entered_crowded : 64 < length rows / 8 → Entered rows costs τ allowance work answer 1 work answer
  entered_crowded l = refused_byte rows costs τ allowance work answer 1 (passed_1 rows costs) (fault_crowded rows costs τ (length work) (length answer) l)

  module _ (full : length rows % 8 ≡ 0) (some : length rows / 8 ≢ 0) (few : length rows / 8 ≤ 64) where
    counted : Passed rows costs 2
    counted = passed_2 rows costs full some few

    pub entered_uneven : length costs ≢ length rows → Entered rows costs τ allowance work answer 2 work answer
    entered_uneven e = refused_byte rows costs τ allowance work answer 2 counted (fault_uneven rows costs τ (length work) (length answer) full e)

    module _ (priced : length costs ≡ length rows) where
      pub entered_narrow : length answer < 22 → Entered rows costs τ allowance work answer 3 work answer
      entered_narrow l = refused_byte rows costs τ allowance work answer 3 (passed_3 rows costs counted priced) (narrow l)

      pub entered_short : length work / 8 < length rows / 8 * (length rows / 8) → Entered rows costs τ allowance work answer 3 work answer
      entered_short l = refused_byte rows costs τ allowance work answer 3 (passed_3 rows costs counted priced) (fault_short rows costs τ (length work) (length answer) l)

pub ruleset byte_refusals = (entered_broken, entered_empty, entered_crowded, entered_uneven, entered_narrow, entered_short)
