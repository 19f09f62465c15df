-- `reader::Taken::fill_costs`: each place has the cost of its job.
use Rattle.std.proofs.Common.{rules}
use Rattle.reader.proofs.FillLaws.{cost_of_job, filled_as}
use Rattle.reader.proofs.Taken.fill_costs.Goals as goal

pub returns : goal.returns
returns c = filled_as _ _ _ _ _ (λ j v l e. cost_of_job _ _ _ _ (search rules)) c.fill.ensures
