-- `graph::rows_known` meets its contract: a row names only jobs below n where it is below 2^n. Assumes nothing.
use Rattle.std.proofs.Common.{arith, ◌^◌, ◌<◌, ◌≤◌, length, rules, tests}
use Rattle.std.proofs.lemmas.Iterator.{YieldsList-from_slice, cases_from_all}
use Rattle.graph.proofs.WaitLaws.{known_cases}
use Rattle.graph.proofs.rows_known.Goals as goal

pub returns : goal.returns
returns c = let rows = c.args.rows.now in
    known_cases rows _ (λ k. omega (arith, c.type_inv.rows k)) (cases_from_all _ _ _ (λ row. row < 2 ^ length rows) (λ row. 2 ^ length rows ≤ row) c.all.ensures.ran (YieldsList-from_slice rows (cc))
    (λ x q k. search (rules, tests)) (λ x q k. search (rules, tests)))
