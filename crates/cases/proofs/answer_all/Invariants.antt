-- `cases::answer_all`. Invariant: where the lines from here on are answered, all are. The measure: the bytes left.
use Rattle.std.proofs.Common.{◌≡◌, length, ◌-◌}
use Rattle.cases.specs.Lines.{Answered}
use Rattle.cases.proofs.answer_all.Given as goal

abbrev pub invariant-loop-words : goal.invariant-loop-words
invariant-loop-words g l = record {
  callable : goal.F-IsAlwaysCallable g l.answer;
  text : l.words.text.now ≡ l.initial.words.text.now;
  all :
      Answered g.L.Line.line_at g.L.Line.no_room (λ f line f'. goal.F-step g f line tt f') l.initial.words.text.now l.words.at l.answer
      → Answered g.L.Line.line_at g.L.Line.no_room (λ f line f'. goal.F-step g f line tt f') l.initial.words.text.now l.initial.words.at l.initial.answer;
}

abbrev pub decreases-loop-words : goal.decreases-loop-words
decreases-loop-words g l = length l.words.text.now - l.words.at
