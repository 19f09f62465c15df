-- The document's program case from text to line.
-- Assumes nothing.
--
--   example_answered   "Out: 0302000000000000000D000000010000000000000002"
use mathlib.Core.Path.{◌≡◌, refl, sym, subst}
use mathlib.Core.List.{[], ◌∷◌, ◌++◌}
use Prim.Native.Nat.{ℕ, zero, suc, ◌<◌}
use native.Mathlib.Omega.{arith}
use lib.ListN.{get_or}
use Rattle.digits.specs.Digits.{digit, byte_at, number}
use Rattle.digits.specs.Spell.{spelt, spell}
use Rattle.graph.specs.Waits.{waits}
use Rattle.network.specs.Costs.{cost_at}
use Rattle.verdict.specs.Answers.{Verdict}
use Rattle.verdict.proofs.TableLaws.{program_case}
use Rattle.frames.specs.Fields.{header_at}
use Rattle.refusals.proofs.Worked.{line, example, example_unrefused}
use Rattle.reader.specs.Snapshots.{RowOf, CostOf}
use Rattle.reader.proofs.Worked.{example_row_0, example_row_1, example_costs}
use Rattle.lines.proofs.Worked.{example_line}
use Rattle.reply.specs.Replied.{Given, LineOf}
use Rattle.reply.specs.Replied.LineOf.{answers}

fields : ((header_at example 0).n ≡ 2) × ((header_at example 0).t ≡ 0) × ((header_at example 0).allowance ≡ 64)
unfolding example line spell spelt digit byte_at number header_at
fields = (refl, refl, refl)

rows : (j : ℕ) → j < (header_at example 0).n → RowOf (header_at example 0) example j (get_or (2 ∷ 1 ∷ []) j 0)
rows zero l = example_row_0
rows (suc zero) l = example_row_1
rows (suc (suc j)) l = absurd (omega (arith, l, fields.0))

costs : (j : ℕ) → j < (header_at example 0).n → CostOf (header_at example 0) example j (get_or (35 ∷ 13 ∷ []) j 0)
unfolding CostOf
costs zero l = sym example_costs.0
costs (suc zero) l = sym example_costs.1
costs (suc (suc j)) l = absurd (omega (arith, l, fields.0))

given : Given example (2 ∷ 1 ∷ []) (35 ∷ 13 ∷ [])
given = record { jobs = sym fields.0; prices = sym fields.0; row = rows; cost = costs }

decided : Verdict (waits (2 ∷ 1 ∷ [])) 2 (header_at example 0).t (cost_at (35 ∷ 13 ∷ [])) (header_at example 0).allowance 2 13 1 2
decided = rw (fields.1, fields.2) program_case.1

pub example_answered : LineOf example (spell 44 0x0302_0000_0000_0000_000D_0000_0001_0000_0000_0000_0002 ++ 10 ∷ [])
example_answered = subst (LineOf example) example_line (answers example_unrefused (2 ∷ 1 ∷ []) (35 ∷ 13 ∷ []) given 2 13 1 2 decided)
