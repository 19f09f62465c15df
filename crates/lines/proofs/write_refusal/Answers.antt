use Rattle.lines.proofs.LineLaws.{refusal_line_lem}
use Rattle.lines.proofs.write_refusal.Goals as goal

pub returns : goal.returns
returns c = rw (c.write_fields.ensures, c.from.ensures, c.from-2.ensures, c.from-3.ensures) (refusal_line_lem c.args.r c.args.out.now c.requires)
