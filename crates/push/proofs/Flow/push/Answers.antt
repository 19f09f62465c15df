use mathlib.Core.Path.{sym, ◌∙◌}
use Rattle.push.proofs.WayLaws.{push_inside, push_step, push_more}
use Rattle.push.proofs.Flow.push.Goals as goal

pub bounds-trail-p : goal.bounds-trail-p
bounds-trail-p c = push_inside _ _ _ _ _ _ _ _ _ _ _ _ _ c.loop-i.invariant.0 c.loop-i-test.true

pub advance-requires : goal.advance-requires
advance-requires c = let (k, costs, wide, name) = c.loop-i.invariant in rw (costs, wide) (push_step _ _ _ _ _ _ _ _ _ _ _ _ _ k c.loop-i-test.true)

pub loop-i-preserved : goal.loop-i-preserved
loop-i-preserved c =
    let (k, costs, wide, name) = c.loop-i.invariant in
    let (same_costs, same_wide) = c.advance.ensures.same_network in (
      push_more _ _ _ _ _ _ _ _ _ _ _ _ _ k c.loop-i-test.true _ _ _ (rw (sym costs, sym wide) c.advance.ensures.advanced),
      same_costs ∙ costs,
      same_wide ∙ wide,
      c.advance.ensures.same_work ∙ name,
    )
