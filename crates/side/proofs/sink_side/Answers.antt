use native.Mathlib.Omega.{arith}
use Rattle.bits.proofs.Digits.{one_shl}
use Rattle.side.proofs.SideLaws.{side_others, side_start, out_side, side_out, side_shut, side_grow, side_small, side_turn, side_end}
use Rattle.side.proofs.sink_side.Goals as goal

pub loop-t-init : goal.loop-t-init
loop-t-init c = side_start _ _ _ c.requires (omega arith) _ (one_shl _ c.requires.job)

pub gather-outs-requires : goal.gather-outs-requires
gather-outs-requires c = let i = c.loop-t.invariant in side_others _ _ c.args.x _ i.given.size (omega arith) (omega arith) (omega (arith, i.out_small))

pub gather-fresh-requires : goal.gather-fresh-requires
gather-fresh-requires c = let i = c.loop-t.invariant in side_others _ _ c.args.x _ i.given.size (omega arith) (omega arith) (omega (arith, i.in_small))

pub returns-then-fresh-eq0 : goal.returns-then-fresh-eq0
returns-then-fresh-eq0 c = let i = c.loop-t.invariant in
    side_end _ _ _ _ _ (omega arith) (side_out _ _ _ _ _ (omega arith) i _ (out_side _ c.args.x _ c.loop-t.outs _ _ (omega arith) c.gather-outs.ensures)) _ c.gather-fresh.ensures c.if-fresh-eq0.true
    (side_shut _ _ _ _ _ (omega arith) i _ (out_side _ c.args.x _ c.loop-t.outs _ _ (omega arith) c.gather-outs.ensures))

pub loop-t-smaller : goal.loop-t-smaller
loop-t-smaller c = let i = side_out _ _ _ _ _ (omega arith) c.loop-t.invariant _ (out_side _ c.args.x _ c.loop-t.outs _ _ (omega arith) c.gather-outs.ensures) in
    omega (arith, side_grow _ _ _ _ _ (omega arith) i _ c.gather-fresh.ensures c.if-fresh-eq0.false, side_small _ _ _ _ _ (omega arith) i _ c.gather-fresh.ensures)

pub loop-t-preserved : goal.loop-t-preserved
loop-t-preserved c =
    side_turn _ _ _ _ _ (omega arith) (side_out _ _ _ _ _ (omega arith) c.loop-t.invariant _ (out_side _ c.args.x _ c.loop-t.outs _ _ (omega arith) c.gather-outs.ensures)) _ c.gather-fresh.ensures
