-- Refusals 1 to 8 of a verdict call (document 01, the table of refusals, and "A verdict call checks 1 to 8 in that order, each over the whole input before the next").
-- rows and costs are the lists given, τ the timed-out job (the document's T), work the number of places of the lent work list; n is the number of rows.
--
--   Fault rows costs τ work k     the input has the fault of refusal k
--   Refusal rows costs τ work k   refusal k is due: "Given exactly when no smaller-placed refusal applies and" the input has its fault
--   Faultless rows costs τ work   no refusal is due
--   Due rows costs τ work k       k is the number of the refusal that is due, or 0 where none is
use Rattle.std.specs.Prelude.{◌≡◌, ◌≢◌, List, ℕ, suc, ◌*◌, ◌^◌, ◌<◌, ◌≤◌, T, length}
use Rattle.sums.specs.Sum.{sum}
use Rattle.graph.specs.Waits.{waits}
use Rattle.network.specs.Costs.{cost_at}

pub data Fault (rows costs : List ℕ) (τ work : ℕ) : ℕ → Type 0 where
  -- 1: "no rows, or more than 64"
  empty : length rows ≡ 0 → Fault rows costs τ work 1
  crowded : 64 < length rows → Fault rows costs τ work 1
  -- 2: "the cost list is not as long as the rows"
  uneven : length costs ≢ length rows → Fault rows costs τ work 2
  -- 3: "the work list has fewer than n × n places"
  short : work < length rows * length rows → Fault rows costs τ work 3
  -- 4: "a row names a job n or above"
  stray : (j i : ℕ) → T (waits rows j i) → length rows ≤ i → Fault rows costs τ work 4
  -- 5: "a job waits for itself"
  looped : (j : ℕ) → T (waits rows j j) → Fault rows costs τ work 5
  -- 6: "T is n or above"
  absent : length rows ≤ τ → Fault rows costs τ work 6
  -- 7: "a cost is 0 or above 2^42"
  free : (j : ℕ) → j < length rows → cost_at costs j ≡ 0 → Fault rows costs τ work 7
  dear : (j : ℕ) → j < length rows → 2 ^ 42 < cost_at costs j → Fault rows costs τ work 7
  -- 8: "the sum of all costs plus one is above 2^63"
  heavy : 2 ^ 63 < suc (sum (length rows) (cost_at costs)) → Fault rows costs τ work 8

pub record Refusal (rows costs : List ℕ) (τ work k : ℕ) : Type 0 where
  pub fault : Fault rows costs τ work k
  pub first : (j : ℕ) → j < k → Fault rows costs τ work j → ⊥

abbrev pub Faultless : List ℕ → List ℕ → ℕ → ℕ → Type 0
Faultless rows costs τ work = (k : ℕ) → Fault rows costs τ work k → ⊥

pub data Due (rows costs : List ℕ) (τ work : ℕ) : ℕ → Type 0 where
  refused : (k : ℕ) → Refusal rows costs τ work k → Due rows costs τ work k
  none : Faultless rows costs τ work → Due rows costs τ work 0
