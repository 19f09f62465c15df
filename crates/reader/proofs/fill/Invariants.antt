-- `reader::fill`. Invariant: the first j places have their values, and the rest are kept.
use Rattle.reader.specs.Snapshots.{Filled}
use Rattle.reader.proofs.fill.Given as goal

abbrev pub invariant-loop-j : goal.invariant-loop-j
invariant-loop-j g l = Filled (goal.F-post g l.value) l.j l.initial.place-items l.place-items
