-- Steps between nodes as 128 masks of jobs, one a node. "Job u has the in-node 2u and the out-node 2u + 1" (document 01, "The network and its rounds"):
-- every step of such a network leads from an out-node to an in-node or from an in-node to an out-node, so the job of the node that it leads to says which node that is.
--
--   at list i          place i of a list of nodes or places
--   masked steps a b   the masks read as rooms: 1 where they allow a step from node a to node b, else 0
use Rattle.std.specs.Prelude.{List, ℕ, ◌+◌, ◌/◌, ◌%◌, eqb, get_or}
use Rattle.bits.specs.Mask.{has}
use Rattle.sums.specs.Tests.{both}
use Rattle.sums.specs.Sum.{gate}
use Rattle.network.specs.Rooms.{Room}

abbrev pub at : List ℕ → ℕ → ℕ
at list i = get_or list i 0

unfoldable pub masked : List ℕ → Room
unfolding has
masked steps a b = gate (both (eqb ((a + b) % 2) 1) (has (get_or steps a 0) (b / 2))) 1
