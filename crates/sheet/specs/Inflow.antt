-- What flows into one job, added up from the work list: place v × n + u has the flow on the wait from v to u.
--
--   inflow_of work n u    the sum over all v below n
--   Summable work n u    what `inflow` is given: a job of a list of n × n places, and a sum of 64 bits
use Rattle.std.specs.Prelude.{List, ℕ, ◌+◌, ◌*◌, ◌^◌, ◌<◌, ◌≤◌, length, get_or}
use Rattle.sums.specs.Sum.{sum}

unfoldable pub inflow_of : List ℕ → ℕ → ℕ → ℕ
unfolding sum
inflow_of work n u = sum n (λ v. get_or work (v * n + u) 0)

pub record Summable (work : List ℕ) (n u : ℕ) : Type 0 where
  pub few : n ≤ 64
  pub size : n * n ≤ length work
  pub job : u < n
  pub fits : inflow_of work n u < 2 ^ 64
