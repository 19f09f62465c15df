-- The sink's side of a network after its rounds: where the sink is still reached (document 01, "Slips the proofs shall exclude", 2: the cut is read from there).
-- The steps are masks, as in the search; the sink is t's in-node.
--
--   Sidable S t x         what `sink_side` is given: no step leads from a node of a job outside x
--   Home S t node u       the sink is reached from job u's in-node (node is inn) or out-node (node is out)
--   Sided S t ins outs    ins and outs are the masks of the jobs from whose in-node and out-node it is reached
use Rattle.std.specs.Prelude.{◌≡◌, List, ℕ, ◌/◌, ◌<◌, T, length}
use Rattle.bits.specs.Mask.{Has, MaskOf}
use Rattle.walks.specs.Walk.{Reaches}
use Rattle.network.specs.Rooms.{step}
use Rattle.network.specs.Arcs.{inn, out}
use Rattle.search.specs.Masks.{masked}

pub record Sidable (S : List ℕ) (t x : ℕ) : Type 0 where
  pub size : length S ≡ 128
  pub job : t < 64
  pub member : Has x t
  pub only : (a b : ℕ) → a < 128 → b < 128 → T (step (masked S) a b) → Has x (a / 2)

pub record Home (S : List ℕ) (t : ℕ) (node : ℕ → ℕ) (u : ℕ) : Type 0 where
  pub job : u < 64
  pub home : Reaches (step (masked S)) 128 (node u) (inn t)

pub record Sided (S : List ℕ) (t ins outs : ℕ) : Type 0 where
  pub inns : MaskOf (Home S t inn) ins
  pub outer : MaskOf (Home S t out) outs
