use Rattle.std.proofs.Common.{arith}
use Rattle.lines.proofs.LineLaws.{written_room, written_more}
use Rattle.lines.proofs.write_fields.Goals as goal

pub put_digits-requires : goal.put_digits-requires
put_digits-requires c = let r = written_room _ _ _ _ _ c.loop-width.invariant c.loop-width-test.true in omega arith

pub overflow_add-at : goal.overflow_add-at
overflow_add-at c = let r = written_room _ _ _ _ _ c.loop-width.invariant c.loop-width-test.true in omega arith

pub loop-width-preserved : goal.loop-width-preserved
loop-width-preserved c = written_more _ _ _ _ _ c.loop-width.invariant c.loop-width-test.true _ c.put_digits.ensures
