-- What `begin`, the inner function of this layer, promises: the masks of the steps with room before the first round. It adds up the costs of X as well.
--
--   Costed costs x                what `begin` is given for the sum: x has jobs of the list, and their costs add up to a number of 64 bits
--   start_mask rows τ x a          the mask of the steps from node a before the first round: from an out-node to the jobs of X for which its job waits,
--                                 from an in-node to the out-node of its job, unless that is T; none from nodes of jobs outside X
--   Beginnable rows x             what `begin` is given for the masks: at most 64 rows, and x has jobs of the list
--   Begun rows τ x steps          the masks before the first round
use Rattle.std.specs.Prelude.{◌≡◌, not, List, ℕ, ◌/◌, ◌%◌, ◌^◌, ◌<◌, ◌≤◌, eqb, length}
use Rattle.std.specs.Int.Bits.{bit_and}
use Rattle.bits.specs.Mask.{Has, has}
use Rattle.sums.specs.Sum.{gate}
use Rattle.network.specs.Rooms.{pick}
use Rattle.network.specs.Arcs.{total}
use Rattle.search.specs.Masks.{at}
use Rattle.network.specs.Costs.{cost_at}

pub record Costed (costs : List ℕ) (x : ℕ) : Type 0 where
  pub members : (u : ℕ) → Has x u → u < length costs
  pub bounded : total (length costs) (has x) (cost_at costs) < 2 ^ 64

unfoldable pub start_mask : List ℕ → ℕ → ℕ → ℕ → ℕ
unfolding has
start_mask rows τ x a = gate (has x (a / 2)) (pick (eqb (a % 2) 1) (bit_and (at rows (a / 2)) x) (gate (not (eqb (a / 2) τ)) (2 ^ (a / 2))))

pub record Beginnable (rows : List ℕ) (x : ℕ) : Type 0 where
  pub few : length rows ≤ 64
  pub members : (u : ℕ) → Has x u → u < length rows

pub record Begun (rows : List ℕ) (τ x : ℕ) (steps : List ℕ) : Type 0 where
  pub size : length steps ≡ 128
  pub masks : (a : ℕ) → a < 128 → at steps a ≡ start_mask rows τ x a
