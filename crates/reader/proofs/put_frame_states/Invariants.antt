-- `reader::put_frame_states`. Invariant: the first p states are copied.
use Rattle.reader.proofs.TableLaws.{Copied}
use Rattle.reader.proofs.put_frame_states.Given as goal

abbrev pub invariant-loop-p : goal.invariant-loop-p
invariant-loop-p l = Copied l.frame.text.now l.frame.at l.initial.states l.states l.p
