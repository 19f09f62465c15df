-- What the rounds are made on: an accepted graph with its costs, the timed-out job τ (the document's T), and a set of jobs x, the document's X.
-- The checks of a verdict call (document 01, refusals 1 to 8) and the graph layer's X give every field.
--
--   Accepted rows costs τ x work      what the public call of this layer requires
use Rattle.std.specs.Prelude.{◌≡◌, List, ℕ, suc, ◌*◌, ◌^◌, ◌<◌, ◌≤◌, T, length, get_or}
use Rattle.bits.specs.Mask.{Has}
use Rattle.sums.specs.Sum.{sum}
use Rattle.graph.specs.Waits.{waits, Jobs}
use Rattle.network.specs.Costs.{cost_at}

pub record Accepted (rows costs : List ℕ) (τ x : ℕ) (work : List ℕ) : Type 0 where
  -- at most 64 jobs, no row names a job n or above, no job waits for itself
  pub jobs : Jobs rows
  pub apart : (u : ℕ) → T (waits rows u u) → ⊥
  -- a cost above 0 for each job, and their sum plus one at most 2 ^ 63
  pub priced : length costs ≡ length rows
  pub positive : (u : ℕ) → u < length rows → 0 < cost_at costs u
  pub bounded : suc (sum (length rows) (cost_at costs)) ≤ 2 ^ 63
  -- T and the jobs of the set x are jobs of the list
  pub job : τ < length rows
  pub member : Has x τ
  pub members : (u : ℕ) → Has x u → u < length rows
  -- n × n places for the flows
  pub size : length rows * length rows ≤ length work
  -- which are 0
  pub blank : (i : ℕ) → i < length rows * length rows → get_or work i 0 ≡ 0
