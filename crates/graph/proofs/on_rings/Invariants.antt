-- `graph::on_rings` meets its contract. The loop's invariant: x has jobs of X.
-- The measure: x grows as a number. Assumes nothing.
use Prim.Native.Nat.{◌-◌, ◌^◌}
use Rattle.graph.proofs.RingLaws.{Homing}
use Rattle.graph.proofs.on_rings.Given as goal

abbrev pub invariant-loop-t : goal.invariant-loop-t
invariant-loop-t l = Homing l.rows l.t l.away l.x

abbrev pub decreases-loop-t : goal.decreases-loop-t
decreases-loop-t l = 2 ^ 64 - l.x
