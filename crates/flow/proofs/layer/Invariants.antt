-- `layer`: the levels before k are written, and met has the nodes of level k, of the places below the loop's.
use Prim.Native.Nat.{◌-◌}
use Rattle.flow.proofs.LayerLaws.{Layering}
use Rattle.flow.proofs.layer.Given as goal

abbrev pub invariant-loop-b : goal.invariant-loop-b
invariant-loop-b l =
    Layering l.queue l.e l.levels l.b-index (l.b-index - 1) l.k l.side l.met
