-- `push`: d is pushed along the steps behind place i.
use mathlib.Core.Path.{◌≡◌}
use Rattle.push.proofs.WayLaws.{Rising}
use Rattle.push.proofs.Flow.push.Given as goal

abbrev pub invariant-loop-i : goal.invariant-loop-i
invariant-loop-i l =
    let now = l.self in
    let old = l.initial.self in
    Rising old.costs.now old.wide old.work.now old.thru old.steps l.trail.queue l.trail.parent l.e l.d l.i now.work.now now.thru now.steps
    × (now.costs.now ≡ old.costs.now) × (now.wide ≡ old.wide) × (now.work.ghost_name ≡ old.work.ghost_name)

abbrev pub decreases-loop-i : goal.decreases-loop-i
decreases-loop-i l = l.i
