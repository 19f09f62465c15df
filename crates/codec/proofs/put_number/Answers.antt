-- `codec::put_number`: zeros, and std's bytes of the number behind them.
use Rattle.std.proofs.Common.{arith}
use Rattle.codec.proofs.ByteLaws.{number_put}
use Rattle.codec.proofs.put_number.Goals as goal

pub returns : goal.returns
returns c =
    let digits = rw c.to_be_bytes.ensures at c.copy_from_slice.ensures.after in
    number_put _ _ _ _ _ _ _ _ _ _ _ c.requires c.min-own.ensures (omega arith) (omega arith) (omega arith) (omega arith) (c.fill.ensures.after (λ y e. e)) digits (omega arith)
