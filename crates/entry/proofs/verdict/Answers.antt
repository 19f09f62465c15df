-- `entry::verdict`: a refusal of the byte checks, and nothing written.
use Rattle.std.proofs.lemmas.Result.{err_from_is_err_and}
use Rattle.entry.proofs.verdict.Goals as goal

pub returns-in_err-n : goal.returns-in_err-n
returns-in_err-n c =
    let e = err_from_is_err_and c.from_residual.result c.from_residual.ensures.1 in
    rw (e.1, e.2) c.in_err-n.ensures.refused
