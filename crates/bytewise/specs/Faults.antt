-- Refusals 1 to 8 at the C entry (document 01, "What a call takes, returns and writes", and the table of refusals). The byte rules stand inside 1, 2 and 3.
-- rows and costs are lists of bytes, τ is the timed-out job (the document's T), work and answer are the numbers of bytes that are lent.
--
--   EntryFault rows costs τ work answer k      the input has the fault of refusal k
--   EntryRefusal rows costs τ work answer k    refusal k is due: "Given exactly when no smaller-placed refusal applies and" the input has its fault
--   EntryFaultless rows costs τ work answer    no refusal is due
--   Shaped rows costs work answer              the lists of bytes are as refusals 1 to 3 leave them: 1 to 64 rows of 8 bytes, as many costs, n × n places of work, 22 of the answer
--   Sized rows costs work answer n k           the same, where n is the number of rows and at most k
use Rattle.std.specs.Prelude.{◌≡◌, ◌≢◌, List, ℕ, ◌*◌, ◌/◌, ◌%◌, ◌<◌, ◌≤◌, length}
use Rattle.lists.specs.Numbers.{numbers_of}
use Rattle.checks.specs.Refusals.{Fault}

pub data EntryFault (rows costs : List ℕ) (τ work answer : ℕ) : ℕ → Type 0 where
  -- 1: "Rows not in full eights are 1"
  broken_rows : length rows % 8 ≢ 0 → EntryFault rows costs τ work answer 1
  -- 2: "costs not in full eights 2"
  broken_costs : length costs % 8 ≢ 0 → EntryFault rows costs τ work answer 2
  -- 3: "fewer than 22 answer places 3"
  narrow : answer < 22 → EntryFault rows costs τ work answer 3
  -- 1 to 8: what a verdict call on the numbers is refused for. "Work bytes that make no full eight count as no place."
  of_numbers : (k : ℕ) → Fault (numbers_of rows) (numbers_of costs) τ (work / 8) k → EntryFault rows costs τ work answer k

pub record EntryRefusal (rows costs : List ℕ) (τ work answer k : ℕ) : Type 0 where
  pub fault : EntryFault rows costs τ work answer k
  pub first : (j : ℕ) → j < k → EntryFault rows costs τ work answer j → ⊥

abbrev pub EntryFaultless : List ℕ → List ℕ → ℕ → ℕ → ℕ → Type 0
EntryFaultless rows costs τ work answer = (k : ℕ) → EntryFault rows costs τ work answer k → ⊥

pub record Shaped (rows costs : List ℕ) (work answer : ℕ) : Type 0 where
  pub full : length rows % 8 ≡ 0
  pub some : 0 < length rows / 8
  pub few : length rows / 8 ≤ 64
  pub priced : length costs ≡ length rows
  pub room : length rows / 8 * (length rows / 8) ≤ work / 8
  pub places : 22 ≤ answer

pub record Sized (rows costs : List ℕ) (work answer n k : ℕ) : Type 0 where
  pub shape : Shaped rows costs work answer
  pub count : n ≡ length rows / 8
  pub limit : n ≤ k
