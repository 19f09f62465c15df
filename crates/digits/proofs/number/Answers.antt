use Rattle.std.proofs.Common.{◌∙◌, arith}
use Rattle.digits.proofs.DigitLaws.{read_more, read_fits}
use Rattle.digits.proofs.number.Goals as goal

pub overflow_mul-value : goal.overflow_mul-value
overflow_mul-value g c = let s = read_fits _ _ _ _ c.loop-k.invariant (omega arith) in omega arith

pub overflow_add-value : goal.overflow_add-value
overflow_add-value g c = let s = read_fits _ _ _ _ c.loop-k.invariant (omega arith) in omega arith

pub loop-k-preserved : goal.loop-k-preserved
loop-k-preserved g c = read_more _ _ _ _ _ _ _ c.loop-k.invariant c.byte_at.ensures (omega arith) (omega arith) (omega arith)
