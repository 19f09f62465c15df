-- `checks::sum_in_range` meets its contract. The loop's invariant: the costs gone through are in range, and their sum.
-- Assumes nothing.
use Rattle.checks.proofs.CheckLaws.{Added}
use Rattle.checks.proofs.sum_in_range.Given as goal

abbrev pub invariant-loop-cost : goal.invariant-loop-cost
invariant-loop-cost l = Added l.costs l.cost-index l.total
