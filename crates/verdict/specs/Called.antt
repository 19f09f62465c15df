-- The whole statement of a verdict call, on all inputs (document 01, "What a call takes, returns and writes").
--
--   Flows rows costs τ k before after                 the work list, `before` the call and `after` it, where k rounds were made
--   Ringed rows costs τ x work                        what `decide` is given: an input without faults, its X, a ring through T, and 0 in the n × n places of the work list
--   Called rows costs τ allowance before answer after what a call answers, and what its work list is then
use Rattle.std.specs.Prelude.{◌≡◌, true, List, ℕ, ◌+◌, ◌*◌, ◌<◌, ◌≤◌, length, get_or}
use Rattle.bits.specs.Mask.{MaskOf}
use Rattle.graph.specs.Waits.{waits}
use Rattle.graph.specs.Rings.{InX, RingThrough}
use Rattle.network.specs.Rooms.{Room}
use Rattle.network.specs.Arcs.{flow_on, within}
use Rattle.network.specs.Costs.{cost_at}
use Rattle.verdict.specs.declared.Decision.{Decision}
use Rattle.verdict.specs.Results.{Answer}
use Rattle.verdict.specs.Results.Answer.{Refused, Decided}
use Rattle.checks.specs.Refusals.{Refusal, Faultless}
use Rattle.verdict.specs.Answers.{outcome_number, After, Verdict}

pub record Flows (rows costs : List ℕ) (τ k : ℕ) (before after : List ℕ) : Type 0 where
  pub room : Room
  pub rounds : After (waits rows) (length rows) τ (cost_at costs) k room
  -- "place u × n + v of the work list holds the flow on the wait from u to v after the counted rounds, 0 where there is no such wait within X"
  pub flow : (u v : ℕ) → u < length rows → v < length rows
      → get_or after (u * length rows + v) 0 ≡ flow_on (within (waits rows) rounds.x) room u v
  -- "Places from n × n on keep their values"
  pub size : length after ≡ length before
  pub rest : (i : ℕ) → length rows * length rows ≤ i → get_or after i 0 ≡ get_or before i 0

pub record Ringed (rows costs : List ℕ) (τ x : ℕ) (work : List ℕ) : Type 0 where
  pub faultless : Faultless rows costs τ (length work)
  pub exact : MaskOf (InX (waits rows) (length rows) τ) x
  pub ring : RingThrough (waits rows) (length rows) τ true
  pub blank : (i : ℕ) → i < length rows * length rows → get_or work i 0 ≡ 0

pub data Called (rows costs : List ℕ) (τ allowance : ℕ) (before : List ℕ) : Answer → List ℕ → Type 0 where
  -- "A refusal returns its number; all lent lists stay unwritten."
  refuses : (k : ℕ) → Refusal rows costs τ (length before) k → Called rows costs τ allowance before (Refused k) before
  answers : (d : Decision) (after : List ℕ) → Faultless rows costs τ (length before)
      → Verdict (waits rows) (length rows) τ (cost_at costs) allowance (outcome_number d.outcome) d.price d.rounds d.victims
      → Flows rows costs τ d.rounds before after → Called rows costs τ allowance before (Decided d) after
