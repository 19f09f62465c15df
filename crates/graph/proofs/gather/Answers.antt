use native.Mathlib.Omega.{arith}
use Rattle.bits.proofs.Digits.{one_shl}
use Rattle.graph.proofs.GatherLaws.{gather_start, gather_below, gather_hit, gather_miss, gather_end}
use Rattle.graph.proofs.gather.Goals as goal

pub loop-u-init : goal.loop-u-init
loop-u-init c = rw c.into_iter-u-iterator.ensures.into_iter_gives (gather_start _ _ _ _ _ c.requires (omega arith))

pub overflow_shl-hits : goal.overflow_shl-hits
overflow_shl-hits c = gather_below _ _ _ _ _ _ _ _ _ c.loop-u.invariant c.in-Some.ensures.steps

pub loop-u-preserved-then-masks-k-ne0 : goal.loop-u-preserved-then-masks-k-ne0
loop-u-preserved-then-masks-k-ne0 c = let i = c.loop-u.invariant in let t = c.in-Some.ensures.steps in
    gather_hit _ _ _ _ _ _ _ _ _ i t (omega arith) c.if-masks-k-ne0.true _ (one_shl _ (gather_below _ _ _ _ _ _ _ _ _ i t))

pub loop-u-preserved : goal.loop-u-preserved
loop-u-preserved c = gather_miss _ _ _ _ _ _ _ _ _ c.loop-u.invariant c.in-Some.ensures.steps c.if-masks-k-ne0.false

pub returns : goal.returns
returns c = gather_end _ _ _ _ _ _ _ _ c.loop-u.invariant c.in-None.ensures.steps
