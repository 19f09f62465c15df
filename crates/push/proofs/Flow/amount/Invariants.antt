-- `amount`: d is the most that the steps behind place i allow.
use Rattle.push.proofs.WayLaws.{Climbing}
use Rattle.push.proofs.Flow.amount.Given as goal

abbrev pub invariant-loop-i : goal.invariant-loop-i
invariant-loop-i l =
    Climbing l.self.costs.now l.self.wide l.self.work.now l.self.thru l.trail.queue l.trail.parent l.e l.i l.d

abbrev pub decreases-loop-i : goal.decreases-loop-i
decreases-loop-i l = l.i
