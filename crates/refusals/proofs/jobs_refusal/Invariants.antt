-- `refusals::jobs_refusal`. Invariant: the first j job frames are passed.
use Rattle.refusals.proofs.PassLaws.{Passed}
use Rattle.refusals.proofs.jobs_refusal.Given as goal

abbrev pub invariant-loop-j : goal.invariant-loop-j
invariant-loop-j l = Passed l.h l.text l.h.n l.j
