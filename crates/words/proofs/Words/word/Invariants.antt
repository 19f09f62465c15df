-- `words::Words::word`. Invariant: the number is what was read, with the digits from the place on behind it.
use Rattle.std.proofs.Common.{◌≡◌, ◌+◌}
use Rattle.words.proofs.WordLaws.{Reading}
use Rattle.words.proofs.Words.word.Given as goal

abbrev pub invariant-loop-c : goal.invariant-loop-c
invariant-loop-c l =
    record { text : l.self.text.now ≡ l.initial.self.text.now; place : l.self.at ≡ l.initial.self.at + l.c-index; read : Reading l.initial.self.text.now l.initial.self.at l.value l.c-index }
