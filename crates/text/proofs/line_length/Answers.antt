use Rattle.std.proofs.Common.{arith}
use Rattle.text.proofs.LineLaws.{line_long, line_fits}
use Rattle.text.proofs.line_length.Goals as goal

pub returns : goal.returns
returns c =
    let long = line_long c.args.text.now c.args.at _ _ c.unwrap_or.ensures c.feed.ensures in
    let fits = line_fits c.args.text.now c.args.at c.requires in
    omega (arith, long, fits)
