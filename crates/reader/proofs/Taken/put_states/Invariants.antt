-- `reader::Taken::put_states`. Invariant: the states of the first j jobs are in the table.
use Rattle.reader.proofs.TableLaws.{Tabled}
use Rattle.reader.proofs.Taken.put_states.Given as goal

abbrev pub invariant-loop-j : goal.invariant-loop-j
invariant-loop-j l = Tabled l.self.h l.self.text.now l.initial.table l.table l.j
