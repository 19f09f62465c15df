use Rattle.lines.proofs.LineLaws.{answer_line_lem}
use Rattle.lines.proofs.write_answer.Goals as goal

pub returns : goal.returns
returns c = rw (c.write_fields.ensures, c.from.ensures, c.from-2.ensures, c.from-3.ensures) (answer_line_lem c.args.a c.args.out.now c.requires)
