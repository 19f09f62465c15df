use Rattle.checks.proofs.CheckLaws.{added_start, added_turn, added_zero, added_dear, added_end, added_positive}
use Rattle.checks.proofs.sum_in_range.Goals as goal
use Rattle.checks.proofs.sum_in_range.Goals.{then-cost-eq0-via-then-cost-eq0, then-cost-eq0-via-else-cost-eq0+then-cost-gt-HIGHEST_COST}

pub loop-cost-init : goal.loop-cost-init
loop-cost-init c = added_start _ c.requires

pub returns-then-cost-eq0 : goal.returns-then-cost-eq0
returns-then-cost-eq0 c = elim c.then-cost-eq0.branch [
  | then-cost-eq0-via-then-cost-eq0 w ↦ added_zero _ _ c.loop-cost-test.true w.if-cost-eq0.true
  | then-cost-eq0-via-else-cost-eq0+then-cost-gt-HIGHEST_COST w ↦ added_dear _ _ c.loop-cost-test.true w.if-cost-gt-HIGHEST_COST.true
]

pub loop-cost-preserved : goal.loop-cost-preserved
loop-cost-preserved c = let l = c.loop-cost in
    added_turn _ l.cost-index l.total l.invariant c.loop-cost-test.true c.if-cost-eq0.false c.if-cost-gt-HIGHEST_COST.false

pub returns : goal.returns
returns c = let l = c.loop-cost in
    ((λ some. added_positive _ _ _ l.invariant c.loop-cost-test.false some), added_end _ _ _ l.invariant c.loop-cost-test.false)
