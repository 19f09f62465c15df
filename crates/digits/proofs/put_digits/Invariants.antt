-- `digits::put_digits`. Invariant: the digits from i on are written, and nothing else is changed.
use Rattle.digits.proofs.SpellLaws.{Spelling}
use Rattle.digits.specs.Spell.{spelt}
use Rattle.digits.proofs.put_digits.Given as goal

abbrev pub invariant-loop-i : goal.invariant-loop-i
invariant-loop-i l = Spelling 16 spelt l.initial.out l.at l.k l.x l.out l.rest l.i
