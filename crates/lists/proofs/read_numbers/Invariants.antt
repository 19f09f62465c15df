-- `lists::read_numbers`. Invariant: the first i places hold the first i numbers, the rest are as they were.
use Rattle.std.proofs.Common.{◌≡◌, ◌++◌, drop}
use Rattle.lists.specs.Numbers.{numbers}
use Rattle.lists.proofs.read_numbers.Given as goal

abbrev pub invariant-loop-i : goal.invariant-loop-i
invariant-loop-i l = l.list ≡ numbers l.i l.bytes ++ drop l.i l.initial.list
