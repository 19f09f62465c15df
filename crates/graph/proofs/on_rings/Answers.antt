use native.Mathlib.Omega.{arith}
use Rattle.bits.proofs.Digits.{one_shl}
use Rattle.graph.proofs.RingLaws.{home_start, home_gatherable, home_grow, home_small, home_turn, home_end}
use Rattle.graph.proofs.on_rings.Goals as goal

pub overflow_shl-x : goal.overflow_shl-x
overflow_shl-x c = let p = c.requires in omega (arith, p.0.few, p.1)

-- before the loop x has T alone
pub loop-t-init : goal.loop-t-init
loop-t-init c = let p = c.requires in home_start _ _ _ _ p.0 p.1 c.reach-away.ensures (one_shl c.args.t (omega (arith, p.0.few, p.1)))

pub gather-fresh-requires : goal.gather-fresh-requires
gather-fresh-requires c = home_gatherable _ _ _ _ c.loop-t.invariant

pub returns-then-fresh-eq0 : goal.returns-then-fresh-eq0
returns-then-fresh-eq0 c = home_end _ _ _ _ c.loop-t.invariant _ c.gather-fresh.ensures c.if-fresh-eq0.true

pub loop-t-smaller : goal.loop-t-smaller
loop-t-smaller c = let i = c.loop-t.invariant in
    omega (arith, home_grow _ _ _ _ i _ c.gather-fresh.ensures c.if-fresh-eq0.false, home_small _ _ _ _ i _ c.gather-fresh.ensures)

pub loop-t-preserved : goal.loop-t-preserved
loop-t-preserved c = home_turn _ _ _ _ c.loop-t.invariant _ c.gather-fresh.ensures
