-- `reader::Taken::frame`: the place of a job's frame, by the lines before it.
use mathlib.Core.Path.{◌∙◌}
use native.Mathlib.Omega.{arith}
use Rattle.reader.proofs.FillLaws.{small, place_of, place_fits}
use Rattle.reader.proofs.Taken.frame.Goals as goal

pub job_place-requires : goal.job_place-requires
job_place-requires c = let s = c.args.self in let w = small _ s.unrefused _ s.header in (w.3, omega arith)

pub returns-clause-place : goal.returns-clause-place
returns-clause-place c = let s = c.args.self in c.new.ensures.1 ∙ place_of _ s.unrefused _ s.header _ _ (omega arith) c.job_place.ensures

pub returns-clause-inside : goal.returns-clause-inside
returns-clause-inside c = let s = c.args.self in place_fits _ s.unrefused _ s.header _ _ (omega arith) (c.new.ensures.1 ∙ c.job_place.ensures)
