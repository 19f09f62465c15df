-- `rounds::print_rounds` is safe and ends: a call that is not refused has its rounds. Assumes nothing.
use Rattle.std.proofs.Common.{sym, ◌∙◌, subst, length-take-le, rules}
use Rattle.checks.specs.Refusals.{Faultless}
use Rattle.checks.proofs.RefusalLaws.{faultless_jobs, faultless_job, faultless_some}
use Rattle.rounds.proofs.WorkLaws.{unrefused_faultless}
use Rattle.rounds.proofs.print_rounds.Goals as goal

pub on_rings-x-requires : goal.on_rings-x-requires
on_rings-x-requires c =
    let F = unrefused_faultless _ _ c.refusal.ensures c.is_err.ensures.value c.if-is_err.false in
    (faultless_jobs _ _ _ _ F, faultless_job _ _ _ _ F)

pub rounds_of-made-requires-clause-faultless : goal.rounds_of-made-requires-clause-faultless
rounds_of-made-requires-clause-faultless c =
    let F = unrefused_faultless _ _ c.refusal.ensures c.is_err.ensures.value c.if-is_err.false in
    let same = c.places.ensures.places ∙ sym c.places-2.ensures.places in
    subst (Faultless _ _ _) (same ∙ sym (length-take-le _ _ (search rules))) F

pub print_flows-requires : goal.print_flows-requires
print_flows-requires c = faultless_some _ _ _ _ (unrefused_faultless _ _ c.refusal.ensures c.is_err.ensures.value c.if-is_err.false)
