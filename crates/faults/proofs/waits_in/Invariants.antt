-- `faults::waits_in`. Invariant: the waits at the first p pools are counted.
use mathlib.Core.Path.{◌≡◌}
use Rattle.faults.specs.JobFault.{waits_in}
use Rattle.faults.proofs.waits_in.Given as goal

abbrev pub invariant-loop-p : goal.invariant-loop-p
invariant-loop-p l = l.waits ≡ waits_in l.frame.text.now l.frame.at l.p
