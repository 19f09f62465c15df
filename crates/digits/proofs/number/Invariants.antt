-- `digits::number`. Invariant: the number of the first k bytes is read, and it fits them.
use Rattle.digits.proofs.DigitLaws.{Read}
use Rattle.digits.proofs.number.Given as goal

abbrev pub invariant-loop-k : goal.invariant-loop-k
invariant-loop-k g l = Read l.text l.at l.k l.value
