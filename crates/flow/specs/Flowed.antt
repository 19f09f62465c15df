-- The flow layer's written statement: rounds against an allowance, and the work list afterwards
-- (document 01, "The network and its rounds" and "What a call takes, returns and writes").
-- rows, costs, τ and x as in `Accepted`; n is the number of rows.
--
--   Side r n τ node u        the sink is still reached from job u's in-node (node is inn) or out-node (node is out)
--   Ends r n τ k allowance left ins outs
--                            "Rounds go on until no path is left or the allowance is used up": left says whether a path is left after k rounds;
--                            where none is left, ins and outs are the masks of the jobs from whose in-node and out-node the sink is still reached
--   Flowed rows costs τ x allowance before after k left ins outs
--                            k rounds were made, and so it ends; `before` and `after` are the work list
use Rattle.std.specs.Prelude.{◌≡◌, Bool, true, false, List, ℕ, ◌+◌, ◌*◌, ◌<◌, ◌≤◌, length, get_or}
use Rattle.bits.specs.Mask.{has, MaskOf}
use Rattle.walks.specs.Walk.{Reaches}
use Rattle.graph.specs.Waits.{waits}
use Rattle.network.specs.Rooms.{Room, step}
use Rattle.network.specs.Rounds.{Rounds, Stuck}
use Rattle.network.specs.Arcs.{inn, out, flow_on, within, capacity}
use Rattle.network.specs.Costs.{cost_at}

pub record Side (r : Room) (n τ : ℕ) (node : ℕ → ℕ) (u : ℕ) : Type 0 where
  pub job : u < n
  pub home : Reaches (step r) (2 * n) (node u) (inn τ)

pub data Ends (r : Room) (n τ k allowance : ℕ) : Bool → ℕ → ℕ → Type 0 where
  settled : {ins outs : ℕ} → Stuck (2 * n) (out τ) (inn τ) r → MaskOf (Side r n τ inn) ins → MaskOf (Side r n τ out) outs
      → Ends r n τ k allowance false ins outs
  unfinished : k ≡ allowance → Reaches (step r) (2 * n) (out τ) (inn τ) → Ends r n τ k allowance true 0 0

pub record Flowed (rows costs : List ℕ) (τ x allowance : ℕ) (before after : List ℕ) (k : ℕ) (left : Bool) (ins outs : ℕ) : Type 0 where
  -- the rooms after the rounds
  pub room : Room
  pub made : Rounds (2 * length rows) (out τ) (inn τ) (capacity (waits rows) (has x) (length rows) τ (cost_at costs)) k room
  pub limit : k ≤ allowance
  pub ends : Ends room (length rows) τ k allowance left ins outs
  -- "place u × n + v of the work list holds the flow on the wait from u to v after the counted rounds, 0 where there is no such wait within X"
  pub flow : (u v : ℕ) → u < length rows → v < length rows
      → get_or after (u * length rows + v) 0 ≡ flow_on (within (waits rows) (has x)) room u v
  -- "Places from n × n on keep their values"
  pub size : length after ≡ length before
  pub rest : (i : ℕ) → length rows * length rows ≤ i → get_or after i 0 ≡ get_or before i 0
