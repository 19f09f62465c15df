-- The network of a snapshot (document 01, "The network and its rounds"). Jobs are the numbers below n, nodes those below 2n.
-- w tests waits, x is X as a test of jobs, cost the jobs' costs, τ the timed-out job (the document's T).
-- Each definition but `capacity` is over anything that it names, so that other capacities may stand on the same arcs.
--
--   inn u, out u             "Job u has the in-node 2u and the out-node 2u + 1. The source is T's out-node, the sink T's in-node."
--   flow_on arc r u v         "the flow on the wait from u to v", where the rooms are r: the room back along its arc; "0 where there is no such wait"
--   within w x u v           there is a "wait u to v within X"
--   total n x cost           "S being the sum of all costs in X"
--   job_capacity x τ cost u   "For each job u of X other than T an arc .. with u's cost as its capacity"; 0 where there is no such arc
--   net arc job wide         the capacities: job u's from in-node to out-node is job u, and wide from u's out-node to v's in-node where arc u v
--   capacity w x n τ cost    the capacities of the document
--   wait_count w n            m, the number of waits of the whole snapshot
use Rattle.std.specs.Prelude.{Bool, not, ℕ, suc, ◌+◌, ◌*◌, ◌/◌, ◌%◌, eqb}
use Rattle.sums.specs.Tests.{both}
use Rattle.sums.specs.Sum.{sum, gate}
use Rattle.network.specs.Rooms.{Room}

abbrev pub inn : ℕ → ℕ
inn u = 2 * u

abbrev pub out : ℕ → ℕ
out u = suc (2 * u)

abbrev pub flow_on : (ℕ → ℕ → Bool) → Room → ℕ → ℕ → ℕ
flow_on arc r u v = gate (arc u v) (r (inn v) (out u))

unfoldable pub within : (ℕ → ℕ → Bool) → (ℕ → Bool) → ℕ → ℕ → Bool
within w x u v = both (w u v) (both (x u) (x v))

unfoldable pub total : ℕ → (ℕ → Bool) → (ℕ → ℕ) → ℕ
unfolding sum
total n x cost = sum n (λ u. gate (x u) (cost u))

unfoldable pub job_capacity : (ℕ → Bool) → ℕ → (ℕ → ℕ) → ℕ → ℕ
job_capacity x τ cost u = gate (both (x u) (not (eqb u τ))) (cost u)

unfoldable pub net : (ℕ → ℕ → Bool) → (ℕ → ℕ) → ℕ → Room
net arc job wide a b =
    gate (both (eqb (a % 2) 1) (both (eqb (b % 2) 0) (arc (a / 2) (b / 2)))) wide
    + gate (both (eqb (a % 2) 0) (eqb b (suc a))) (job (a / 2))

-- "For each wait u to v within X an arc runs from u's out-node to v's in-node with capacity S + 1"
unfoldable pub capacity : (ℕ → ℕ → Bool) → (ℕ → Bool) → ℕ → ℕ → (ℕ → ℕ) → Room
unfolding net within job_capacity total
capacity w x n τ cost = net (within w x) (job_capacity x τ cost) (suc (total n x cost))

unfoldable pub wait_count : (ℕ → ℕ → Bool) → ℕ → ℕ
unfolding sum
wait_count w n = sum n (λ u. sum n (λ v. gate (w u v) 1))
