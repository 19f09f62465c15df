use mathlib.Core.Path.{refl}
use mathlib.Core.Logic.{inl, inr}
use native.Mathlib.Omega.{arith}
use Rattle.bits.proofs.Digits.{one_shl}
use Rattle.flow.proofs.CostLaws.{turn_lowest, total_start, total_job, total_fits, total_turn, total_end}
use Rattle.flow.proofs.StartLaws.{begin_start, begin_below, begin_job, begin_turn, begin_end}
use Rattle.flow.proofs.begin.Goals as goal

pub loop-u-init : goal.loop-u-init
loop-u-init c =
    rw c.into_iter-u-iterator.ensures.into_iter_gives
    (rw c.requires.none (begin_start _ _ _ c.requires.jobs.0 (omega arith)), total_start _ _ c.requires.jobs.1 (omega arith), refl, refl, refl, refl)

pub bounds-call-u : goal.bounds-call-u
bounds-call-u c =
    let t = c.loop-u.invariant.1 in
    let (n, e, f) = turn_lowest _ _ _ t.rest_part.small c.in-Some.ensures.steps in
    rw e (total_job _ _ _ _ t n)

pub overflow_add-sum : goal.overflow_add-sum
overflow_add-sum c =
    let t = c.loop-u.invariant.1 in
    let (n, e, f) = turn_lowest _ _ _ t.rest_part.small c.in-Some.ensures.steps in
    rw e (let l = total_fits _ _ _ _ t n in omega arith)

pub bounds-call-u-in-loop-u : goal.bounds-call-u-in-loop-u
bounds-call-u-in-loop-u c =
    let b = c.loop-u.invariant.0 in
    let (n, e, f) = turn_lowest _ _ _ b.rest_part.small c.in-Some.ensures.steps in
    rw e (begin_job _ _ _ _ _ b n)

pub loop-u-preserved-then-u-call : goal.loop-u-preserved-then-u-call
loop-u-preserved-then-u-call c =
    let (b, t, work, thru, costs, name) = c.loop-u.invariant in
    let (n, e, f) = turn_lowest _ _ _ t.rest_part.small c.in-Some.ensures.steps in
    let one = one_shl _ (begin_below _ _ _ _ _ b n) in
    let other = rw e at c.if-u-call.true in
    rw (e, f) (begin_turn _ _ _ _ _ b n _ one _ (inl (other, refl)), total_turn _ _ _ _ t n, work, thru, costs, name)

pub loop-u-preserved : goal.loop-u-preserved
loop-u-preserved c =
    let (b, t, work, thru, costs, name) = c.loop-u.invariant in
    let (n, e, f) = turn_lowest _ _ _ t.rest_part.small c.in-Some.ensures.steps in
    let one = one_shl _ (begin_below _ _ _ _ _ b n) in
    let own = rw e at c.if-u-call.false in
    rw (e, f) (begin_turn _ _ _ _ _ b n _ one _ (inr (own, refl)), total_turn _ _ _ _ t n, work, thru, costs, name)

pub returns : goal.returns
returns c =
    let (b, t, work, thru, costs, name) = c.loop-u.invariant in
    let none = c.in-None.ensures.steps.0 in
    record { value = total_end _ _ _ _ t none; begun = begin_end _ _ _ _ _ b none; same_flow = (work, thru); same_costs = costs; same_work = name }
