-- `search`: the queue holds the nodes met so far in the order of first shortest paths, `free` and `open` those not met. The outer loop goes level by level,
-- the loop in it place by place, and the inner one takes the neighbours of one node in rising order.
use Prim.Native.Nat.{◌-◌}
use lib.ListN.{set}
use Rattle.std.proofs.Common.{◌≡◌, None}
use Rattle.search.proofs.SinceLaws.{Since}
use Rattle.search.proofs.OuterLaws.{Outer, Inner}
use Rattle.search.proofs.LevelLaws.{Level}
use Rattle.search.proofs.search.Given as goal

abbrev pub invariant-loop-j : goal.invariant-loop-j
invariant-loop-j l =
    Inner l.steps l.s l.t l.trail.queue l.trail.parent (set l.free l.side l.open) l.met l.head l.side l.j-iterator.0 × (l.found ≡ None) × Since l.initial.met l.met l.initial.trail.queue l.initial.trail.parent l.trail.queue l.trail.parent × Level l.trail.queue l.side l.head l.end l.met

abbrev pub invariant-loop-head : goal.invariant-loop-head
invariant-loop-head l =
    Outer l.steps l.s l.t l.trail.queue l.trail.parent (set l.free l.side l.open) l.met l.head × (l.found ≡ None) × Since l.initial.met l.met l.initial.trail.queue l.initial.trail.parent l.trail.queue l.trail.parent × Level l.trail.queue l.side l.head l.end l.met

abbrev pub invariant-search : goal.invariant-search
invariant-search l =
    Outer l.steps l.s l.t l.trail.queue l.trail.parent l.free l.met l.level × (l.found ≡ None) × Since 1 l.met l.initial.trail.queue l.initial.trail.parent l.trail.queue l.trail.parent × Level l.trail.queue l.side l.level l.met l.met

abbrev pub decreases-search : goal.decreases-search
decreases-search l = 128 - l.level
