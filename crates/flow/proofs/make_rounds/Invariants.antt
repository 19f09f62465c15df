-- `make_rounds`: so many rounds were made; in the inner loop one more than before it, and the levels are levels of the steps.
use mathlib.Core.Path.{◌≡◌}
use Prim.Native.Nat.{◌+◌, ◌-◌, ◌*◌, ◌≤◌}
use lib.ListN.{length}
use Rattle.flow.specs.Levels.{Levels}
use Rattle.flow.proofs.LoopLaws.{Rounding}
use Rattle.flow.proofs.make_rounds.Given as goal

abbrev pub invariant-searched : goal.invariant-searched
invariant-searched l =
    (l.flow.work.ghost_name ≡ l.initial.flow.work.ghost_name) × (l.flow.costs.now ≡ l.call.costs.now) × (length l.trail.queue ≡ 128) × (length l.trail.parent ≡ 128)
    × Rounding l.call.rows.now l.call.costs.now l.call.t l.x l.call.allowance l.flow.wide l.fn.work l.flow.work.now l.flow.thru l.flow.steps l.rounds

abbrev pub decreases-searched : goal.decreases-searched
decreases-searched l = l.call.allowance - l.rounds

abbrev pub invariant-lowered : goal.invariant-lowered
invariant-lowered l =
    (l.flow.work.ghost_name ≡ l.initial.flow.work.ghost_name) × (l.flow.costs.now ≡ l.call.costs.now) × (length l.trail.queue ≡ 128) × (length l.trail.parent ≡ 128)
    × Rounding l.call.rows.now l.call.costs.now l.call.t l.x l.call.allowance l.flow.wide l.fn.work l.flow.work.now l.flow.thru l.flow.steps l.rounds
    × Levels l.flow.steps (2 * l.call.t + 1) (2 * l.call.t) l.levels × (l.initial.rounds ≤ l.rounds)

abbrev pub decreases-lowered : goal.decreases-lowered
decreases-lowered l = l.call.allowance - l.rounds
