use Rattle.refusals.proofs.PassLaws.{passed_start}
use Rattle.refusals.proofs.jobs_refusal.Goals as goal

pub loop-j-init : goal.loop-j-init
loop-j-init c = passed_start _ _ _ c.requires.passed c.requires.header
