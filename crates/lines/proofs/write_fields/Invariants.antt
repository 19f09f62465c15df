-- `lines::write_fields`. Invariant: the fields before this one are written, and nothing else is changed.
use Rattle.lines.proofs.LineLaws.{Written}
use Rattle.lines.proofs.write_fields.Given as goal

abbrev pub invariant-loop-width : goal.invariant-loop-width
invariant-loop-width l = Written l.fields l.initial.out l.out l.at l.width-index
