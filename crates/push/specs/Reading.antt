-- The room of a step, as it stands in the lists. costs has the cost of each of the n jobs, wide is the capacity of the waits ("capacity S + 1", document 01, "The network and its rounds"),
-- place u × n + v of F has the flow on the wait from u to v, and place u of G the flow through job u.
-- "A step may follow an arc with capacity left, or go back along an arc with flow above zero." Which waits and jobs have arcs the lists do not say: the masks do.
--
--   reads costs wide F G a b      the room of the step from node a to node b, where its arc, or the arc that it goes back along, is there
--   Readable costs wide F G a b   the nodes are nodes, the lists are long enough, and no more flows than the capacity
use Rattle.std.specs.Prelude.{◌≡◌, List, ℕ, ◌+◌, ◌-◌, ◌*◌, ◌/◌, ◌%◌, ◌<◌, ◌≤◌, eqb, length}
use Rattle.network.specs.Rooms.{Room, pick}
use Rattle.search.specs.Masks.{at}

-- between the nodes of one job: back along its arc, or forward; else along a wait, or back along one
unfoldable pub reads : List ℕ → ℕ → List ℕ → List ℕ → Room
reads costs wide F G a b =
    pick (eqb (a / 2) (b / 2))
    (pick (eqb (a % 2) 1) (at G (a / 2)) (at costs (a / 2) - at G (a / 2)))
    (pick (eqb (a % 2) 1) (wide - at F (a / 2 * length costs + b / 2)) (at F (b / 2 * length costs + a / 2)))

pub record Readable (costs : List ℕ) (wide : ℕ) (F G : List ℕ) (a b : ℕ) : Type 0 where
  pub few : length costs ≤ 64
  pub size : length costs * length costs ≤ length F
  pub thru : length G ≡ 64
  pub from : a < 2 * length costs
  pub to : b < 2 * length costs
  pub job : at G (a / 2) ≤ at costs (a / 2)
  pub wait : at F (a / 2 * length costs + b / 2) ≤ wide
