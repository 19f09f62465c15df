-- `sink_side`: ins and outs are parts of the sink's side, and ins grows.
use Prim.Native.Nat.{◌-◌, ◌^◌}
use Rattle.side.proofs.SideLaws.{Siding}
use Rattle.side.proofs.sink_side.Given as goal

abbrev pub invariant-loop-t : goal.invariant-loop-t
invariant-loop-t l = Siding l.steps l.t l.x l.ins l.outs

abbrev pub decreases-loop-t : goal.decreases-loop-t
decreases-loop-t l = 2 ^ 64 - l.ins
