-- `graph::reach` meets its contract. The loop's invariant: what is seen is reached, and the waits of what is done are seen.
-- The measure: the mask of what is done grows as a number. Assumes nothing.
use Prim.Native.Nat.{◌^◌, ◌-◌}
use Rattle.graph.specs.Waits.{Jobs}
use Rattle.graph.proofs.SeenLaws.{Seen}
use Rattle.graph.proofs.reach.Given as goal

abbrev pub invariant-loop-seen : goal.invariant-loop-seen
invariant-loop-seen l = Jobs l.rows × Seen l.rows l.from l.seen l.done

abbrev pub decreases-loop-seen : goal.decreases-loop-seen
decreases-loop-seen l = 2 ^ 64 - l.done
