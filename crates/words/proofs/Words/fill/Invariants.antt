-- `words::Words::fill`. Invariant: the places that were passed hold the numbers, the rest are as they were, and the next number stands behind them.
use Rattle.words.proofs.ListLaws.{Filling}
use Rattle.words.proofs.Words.fill.Given as goal

abbrev pub invariant-loop-slot : goal.invariant-loop-slot
invariant-loop-slot l = Filling l.initial.self.text.now l.initial.self.at l.initial.slot-items l.self.text.now l.self.at l.slot-items l.slot-index
