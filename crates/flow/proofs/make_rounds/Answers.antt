use mathlib.Core.Path.{refl, sym, ap, ◌∙◌}
use Prim.Native.Nat.{ℕ, ◌+◌}
use native.Mathlib.Nat.{le_refl}
use native.Mathlib.Omega.{arith}
use lib.ListN.{length, length-replicate}
use Rattle.std.proofs.Common.{rules}
use Rattle.flow.proofs.RunLaws.{accepted_costed, accepted_beginnable, accepted_fits}
use Rattle.flow.proofs.LoopLaws.{searched_ahead, searched_descent, lowered_ahead, lowered_descent, rounding_start, rounding_roundable, rounding_next, rounding_levels, rounding_left, rounding_settled}
use Rattle.flow.proofs.make_rounds.Goals as goal

pub begin-requires-clause-jobs : goal.begin-requires-clause-jobs
begin-requires-clause-jobs c = (accepted_beginnable _ _ _ _ _ c.requires, accepted_costed _ _ _ _ _ c.requires)

pub overflow_add-flow : goal.overflow_add-flow
overflow_add-flow c = let s = accepted_fits _ _ _ _ _ c.requires in rw c.begin.ensures.value (omega arith)

pub searched-init : goal.searched-init
searched-init c =
    let b = c.begin.ensures in
    let t = c.new-trail.ensures in (
      refl,
      b.same_costs,
      ap length t.queue ∙ length-replicate {A = ℕ} 128 0,
      ap length t.parent ∙ length-replicate {A = ℕ} 128 0,
      rw b.same_flow.0 (rounding_start _ _ _ _ _ _ _ _ _ c.requires (ap (λ (z : ℕ). z + 1) b.value) b.same_flow.1 b.begun),
    )

pub returns-then-rounds-call : goal.returns-then-rounds-call
returns-then-rounds-call c =
    let (name, costs, queue, parent, r) = c.searched.invariant in
    rounding_left _ _ _ _ _ _ _ _ _ _ _ r _ _ _ (searched_ahead _ _ _ _ _ _ _ _ c.in-Some.ensures) c.if-rounds-call.true _ (search rules)

pub round-requires : goal.round-requires
round-requires c =
    let (name, costs, queue, parent, r) = c.searched.invariant in
    rw costs (rounding_roundable _ _ _ _ _ _ _ _ _ _ _ r _ _ _ (searched_ahead _ _ _ _ _ _ _ _ c.in-Some.ensures))

pub lowered-init : goal.lowered-init
lowered-init c =
    let (name, costs, queue, parent, r) = c.searched.invariant in
    let found = c.in-Some.ensures in
    let ahead = searched_ahead _ _ _ _ _ _ _ _ found in
    let (same_costs, same_wide) = c.round.ensures.same_network in (
      refl,
      same_costs ∙ costs,
      found.1.queue,
      found.1.parent,
      rw same_wide (rounding_next _ _ _ _ _ _ _ _ _ _ _ r _ _ _ ahead _ _ _ (rw (sym costs) c.round.ensures.rounded) c.if-rounds-call.false),
      rounding_levels _ _ _ _ _ _ _ _ _ _ _ r _ _ _ ahead _ _ _ (rw costs at c.round.ensures.rounded) _ (searched_descent _ _ _ _ _ _ _ _ found _ c.layer.ensures),
      le_refl _,
    )

pub returns-then-rounds-call-2 : goal.returns-then-rounds-call-2
returns-then-rounds-call-2 c =
    let name = c.searched.invariant.0 in
    let (name_in, costs, queue, parent, r, levels, grown) = c.lowered.invariant in
    rounding_left _ _ _ _ _ _ _ _ _ _ _ r _ _ _ (lowered_ahead _ _ _ _ _ _ _ c.in-Some-descend.ensures) c.if-rounds-call-2.true _ (search rules)

pub round-requires-in-Some-descend : goal.round-requires-in-Some-descend
round-requires-in-Some-descend c =
    let (name, costs, queue, parent, r, levels, grown) = c.lowered.invariant in
    rw costs (rounding_roundable _ _ _ _ _ _ _ _ _ _ _ r _ _ _ (lowered_ahead _ _ _ _ _ _ _ c.in-Some-descend.ensures))

pub lowered-preserved : goal.lowered-preserved
lowered-preserved c =
    let (name, costs, queue, parent, r, levels, grown) = c.lowered.invariant in
    let found = c.in-Some-descend.ensures in
    let ahead = lowered_ahead _ _ _ _ _ _ _ found in
    let e = c.round-in-Some-descend.ensures in
    let (same_costs, same_wide) = e.same_network in (
      e.same_work ∙ name,
      same_costs ∙ costs,
      found.1.queue,
      found.1.parent,
      rw same_wide (rounding_next _ _ _ _ _ _ _ _ _ _ _ r _ _ _ ahead _ _ _ (rw (sym costs) e.rounded) c.if-rounds-call-2.false),
      rounding_levels _ _ _ _ _ _ _ _ _ _ _ r _ _ _ ahead _ _ _ (rw costs at e.rounded) _ (lowered_descent _ _ _ _ _ _ _ found),
      omega (arith, grown),
    )

pub searched-preserved : goal.searched-preserved
searched-preserved c =
    let (name, costs, queue, parent, r) = c.searched.invariant in
    let found = c.in-Some.ensures in
    let (same_costs, same_wide) = c.round.ensures.same_network in (
      c.round.ensures.same_work ∙ name,
      same_costs ∙ costs,
      found.1.queue,
      found.1.parent,
      rw same_wide (rounding_next _ _ _ _ _ _ _ _ _ _ _ r _ _ _ (searched_ahead _ _ _ _ _ _ _ _ found) _ _ _ (rw (sym costs) c.round.ensures.rounded) c.if-rounds-call.false),
    )

pub returns : goal.returns
returns c =
    let (name, costs, queue, parent, r) = c.searched.invariant in
    rounding_settled _ _ _ _ _ _ _ _ _ _ _ r (c.in_default.ensures.none refl) _ _ c.sink_side.ensures _ (search rules)
