-- `inflow`: the sum so far is what flows in from the jobs below v.
use Rattle.std.proofs.Common.{◌≡◌}
use Rattle.sheet.proofs.InflowLaws.{inflow_below}
use Rattle.sheet.proofs.inflow.Given as goal

abbrev pub invariant-loop-v : goal.invariant-loop-v
invariant-loop-v l = l.sum ≡ inflow_below l.work l.n l.u l.v
