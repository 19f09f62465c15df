-- `descend`: the queue leads from the source down to node a at level k. Each turn goes one level down, or takes a node that leads nowhere off its level and goes one level up.
use mathlib.Core.Path.{◌≡◌}
use Prim.Native.Nat.{◌+◌, ◌-◌, ◌*◌, ◌%◌}
use Rattle.sums.specs.Sum.{sum}
use Rattle.search.specs.Masks.{at}
use Rattle.flow.proofs.DescendLaws.{Descending}
use Rattle.flow.proofs.descend.Given as goal

abbrev pub invariant-loop-a : goal.invariant-loop-a
invariant-loop-a l =
    Descending l.steps (2 * l.t + 1) (2 * l.t) l.levels l.trail.queue l.trail.parent l.k l.a × (l.side ≡ 1 - l.a % 2)

abbrev pub decreases-loop-a : goal.decreases-loop-a
decreases-loop-a l = 2 * sum 128 (at l.levels) + (128 - l.k)
