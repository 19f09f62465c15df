-- `relay::start`: the lists are read, and a refusal or a wait answers the call; otherwise there is a ring.
use mathlib.Core.Path.{refl}
use Rattle.std.proofs.lemmas.Result.{err_from_is_err_and}
use Rattle.reasons.proofs.NumberLaws.{reason_some}
use Rattle.checks.proofs.RefusalLaws.{due_refused, due_none, faultless_jobs, faultless_job}
use Rattle.relay.proofs.StartLaws.{read, read_refused, read_waits, read_ahead}
use Rattle.relay.proofs.start.Goals as goal

pub returns-in_err-refusal : goal.returns-in_err-refusal
returns-in_err-refusal c =
    let e = err_from_is_err_and c.from_residual.result c.from_residual.ensures.1 in
    let r = read _ _ _ _ _ _ c.requires _ _ c.read_lists.ensures.row_list_after c.read_lists.ensures.cost_list_after in
    rw (e.1, e.2) (read_refused _ _ _ _ _ _ _ _ c.requires.shape r _ _ (due_refused _ _ _ _ _ c.in_err-refusal.ensures (reason_some _)))

pub on_rings-x-requires : goal.on_rings-x-requires
on_rings-x-requires c = let f = due_none _ _ _ _ _ c.in_ok-refusal.ensures refl in (faultless_jobs _ _ _ _ f, faultless_job _ _ _ _ f)

pub ring_through-requires-clause-t_in_bounds : goal.ring_through-requires-clause-t_in_bounds
ring_through-requires-clause-t_in_bounds c = faultless_job _ _ _ _ (due_none _ _ _ _ _ c.in_ok-refusal.ensures refl)

pub returns-then-not-ring_through : goal.returns-then-not-ring_through
returns-then-not-ring_through c =
    let f = due_none _ _ _ _ _ c.in_ok-refusal.ensures refl in
    let r = read _ _ _ _ _ _ c.requires _ _ c.read_lists.ensures.row_list_after c.read_lists.ensures.cost_list_after in
    read_waits _ _ _ _ _ _ _ _ c.requires.shape r _ _ f c.on_rings-x.ensures c.ring_through.ensures _ _ _ c.if-not-ring_through.true c.write_zeros.ensures c.give.ensures

pub returns : goal.returns
returns c =
    let f = due_none _ _ _ _ _ c.in_ok-refusal.ensures refl in
    let r = read _ _ _ _ _ _ c.requires _ _ c.read_lists.ensures.row_list_after c.read_lists.ensures.cost_list_after in
    (read_ahead _ _ _ _ _ _ _ _ c.requires.shape r _ _ f c.on_rings-x.ensures c.ring_through.ensures c.if-not-ring_through.false, refl, refl)
