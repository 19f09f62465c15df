-- What the checks of refusals 5, 7 and 8 say.
--
--   Looped rows b     b says whether a job waits for itself
--   Summed costs s    s is 0 where a cost is 0 or above 2^42, and otherwise the sum of the costs
--   SummedAs costs r  r is what Summed says, with none in place of 0
use Rattle.std.specs.Prelude.{◌≡◌, ◌⊎◌, Bool, true, false, List, ℕ, ◌^◌, ◌<◌, ◌≤◌, T, length, Option, Some, None}
use Rattle.sums.specs.Sum.{sum}
use Rattle.graph.specs.Waits.{waits}
use Rattle.network.specs.Costs.{cost_at}

pub data Looped (rows : List ℕ) : Bool → Type 0 where
  some : (j : ℕ) → T (waits rows j j) → Looped rows true
  none : ((j : ℕ) → T (waits rows j j) → ⊥) → Looped rows false

pub data Summed (costs : List ℕ) : ℕ → Type 0 where
  strayed : (j : ℕ) → j < length costs → (cost_at costs j ≡ 0) ⊎ (2 ^ 42 < cost_at costs j) → Summed costs 0
  whole : ((j : ℕ) → j < length costs → (0 < cost_at costs j) × (cost_at costs j ≤ 2 ^ 42)) → Summed costs (sum (length costs) (cost_at costs))

abbrev pub SummedAs : List ℕ → Option ℕ → Type 0
SummedAs costs None = Summed costs 0
SummedAs costs (Some s) = (0 < length costs → 0 < s) × Summed costs s
