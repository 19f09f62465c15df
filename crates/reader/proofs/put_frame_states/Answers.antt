use Rattle.reader.proofs.TableLaws.{copied_none, copied_more, copied_end}
use native.Mathlib.Omega.{arith}
use Rattle.reader.proofs.put_frame_states.Goals as goal

pub loop-p-init : goal.loop-p-init
loop-p-init c = copied_none _ _ _

pub loop-p-preserved : goal.loop-p-preserved
loop-p-preserved c = copied_more _ _ _ _ _ _ c.loop-p.invariant (omega arith) c.state.ensures

pub returns : goal.returns
returns c = copied_end _ _ _ _ _ c.loop-p.invariant (omega arith) (omega arith)
