-- `codec::number_at`: std's number of eight bytes is theirs.
use Rattle.std.proofs.Common.{ap, ◌∙◌, arith}
use Rattle.std.specs.Int.{w64, from_be_bytes}
use Rattle.codec.proofs.ByteLaws.{number_eight}
use Rattle.codec.proofs.number_at.Goals as goal

pub returns : goal.returns
returns c =
    let eight = rw c.unwrap.ensures at c.try_into.ensures.1 in
    c.from_be_bytes.ensures ∙ ap (from_be_bytes w64) eight.same ∙ number_eight c.args.bytes.now c.args.at _ (omega arith)
