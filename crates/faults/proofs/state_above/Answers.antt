-- `faults::state_above`: the pools that were looked at are those of the range.
use Rattle.std.proofs.Common.{rules, arith, []}
use Rattle.std.proofs.iter.runs.Sources.{ranges, range_listed}
use Rattle.faults.proofs.StateLaws.{above_is}
use Rattle.faults.proofs.state_above.Goals as goal

pub returns : goal.returns
returns c = above_is _ _ _ _ (search (rules, ranges)) (λ r p l. let run = c.any.ensures.runs.0 in let i = (range_listed run run.seen).5 [] p 0 (grind arith) (grind arith) in grind (arith, i.1))
