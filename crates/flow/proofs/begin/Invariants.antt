-- `begin`: the masks of the jobs that are no more to come are those of the start, all others 0; the sum so far and the costs of those that are add up to S.
use mathlib.Core.Path.{◌≡◌}
use Rattle.flow.proofs.CostLaws.{Totalling}
use Rattle.flow.proofs.StartLaws.{Beginning}
use Rattle.flow.proofs.begin.Given as goal

abbrev pub invariant-loop-u : goal.invariant-loop-u
invariant-loop-u l =
    let old = l.initial.flow in
    Beginning l.call.rows.now l.call.t l.x l.u-iterator.0 l.flow.steps × Totalling l.call.costs.now l.x l.u-iterator.0 l.sum
    × (l.flow.work.now ≡ old.work.now) × (l.flow.thru ≡ old.thru) × (l.flow.costs.now ≡ old.costs.now) × (l.flow.work.ghost_name ≡ old.work.ghost_name)
