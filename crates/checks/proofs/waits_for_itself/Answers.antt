use Rattle.std.proofs.Common.{rules, tests}
use Rattle.std.proofs.lemmas.Iterator.{YieldsList-from_slice, cases_from_any}
use Rattle.std.proofs.lemmas.Iterator.Consumers.{YieldsList-from_enumerate}
use Rattle.checks.proofs.CheckLaws.{Itself, Apart, looped_cases}
use Rattle.checks.proofs.waits_for_itself.Goals as goal

pub returns : goal.returns
returns c = looped_cases _ _ (cases_from_any _ _ _ Itself Apart c.any.ensures.ran (YieldsList-from_enumerate (YieldsList-from_slice c.args.rows.now (cc)) (cc))
    (λ x q k. search (rules, tests)) (λ x q k. search (rules, tests)))
