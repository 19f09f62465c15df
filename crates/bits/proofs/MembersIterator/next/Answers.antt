use native.Mathlib.Omega.{arith}
use Rattle.bits.proofs.TurnLaws.{turn_taken}
use Rattle.bits.proofs.MembersIterator.next.Goals as goal

pub returns-clause-steps : goal.returns-clause-steps
returns-clause-steps c = turn_taken _ (omega arith) c.if-self-eq0.false
