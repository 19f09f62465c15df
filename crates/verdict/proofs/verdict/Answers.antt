-- `verdict::verdict` meets its contract: the refusal that is due, or the list cleared, and then wait or the decision. Assumes nothing.
use mathlib.Core.Path.{refl}
use Rattle.std.proofs.lemmas.Result.{err_from_is_err_and}
use Rattle.reasons.proofs.NumberLaws.{reason_some}
use Rattle.verdict.specs.Called.Called.{refuses}
use Rattle.checks.proofs.RefusalLaws.{due_refused, due_none, faultless_jobs, faultless_job, faultless_few, faultless_size}
use Rattle.verdict.proofs.DecideLaws.{through_none, decide_waits, called_cleared, cleared_ringed, cleared_faultless}
use Rattle.verdict.proofs.verdict.Goals as goal

pub returns-in_err-refusal : goal.returns-in_err-refusal
returns-in_err-refusal c =
    let e = err_from_is_err_and c.from_residual.result c.from_residual.ensures.1 in
    rw (e.1, e.2) (refuses _ (due_refused _ _ _ _ _ c.in_err-refusal.ensures (reason_some _)))

-- behind the refusals there is no fault
pub clear-requires : goal.clear-requires
clear-requires c = let f = due_none _ _ _ _ _ c.in_ok-refusal.ensures refl in (faultless_few _ _ _ _ f, faultless_size _ _ _ _ f)

pub on_rings-x-requires : goal.on_rings-x-requires
on_rings-x-requires c = let f = due_none _ _ _ _ _ c.in_ok-refusal.ensures refl in (faultless_jobs _ _ _ _ f, faultless_job _ _ _ _ f)

pub ring_through-requires : goal.ring_through-requires
ring_through-requires c = let f = due_none _ _ _ _ _ c.in_ok-refusal.ensures refl in record { t_in_bounds = faultless_job _ _ _ _ f; mask_of = c.on_rings-x.ensures }

pub returns-then-not-ring_through : goal.returns-then-not-ring_through
returns-then-not-ring_through c =
    let f = due_none _ _ _ _ _ c.in_ok-refusal.ensures refl in
    called_cleared _ _ _ _ _ c.clear.ensures _ _ _
    (decide_waits _ _ _ _ c.on_rings-x.ensures _ (cleared_faultless _ _ _ _ _ c.clear.ensures f) c.clear.ensures.none _ (through_none _ _ _ _ c.ring_through.ensures c.if-not-ring_through.true))

pub decide-requires : goal.decide-requires
decide-requires c =
    let f = due_none _ _ _ _ _ c.in_ok-refusal.ensures refl in
    cleared_ringed _ _ _ _ _ c.clear.ensures f _ c.on_rings-x.ensures _ c.ring_through.ensures c.if-not-ring_through.false

pub returns : goal.returns
returns c = called_cleared _ _ _ _ _ c.clear.ensures _ _ _ c.decide.ensures
