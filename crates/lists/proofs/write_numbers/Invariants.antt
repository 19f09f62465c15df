-- `lists::write_numbers`. Invariant: the first i numbers are written, the rest is as it was.
use Rattle.std.proofs.Common.{◌≡◌, ◌++◌, ◌*◌, take, drop}
use Rattle.lists.specs.Numbers.{all_bytes}
use Rattle.lists.proofs.write_numbers.Given as goal

abbrev pub invariant-loop-i : goal.invariant-loop-i
invariant-loop-i l = l.bytes ≡ all_bytes (take l.i l.list) ++ drop (8 * l.i) l.initial.bytes
