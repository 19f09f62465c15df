-- The words for outcomes, which the programs print.
--
--   outcome_word o    the bytes of the word for an outcome
use Rattle.std.specs.Prelude.{ℕ, List, codes}
use Rattle.verdict.specs.declared.Outcome.{Outcome}
use Rattle.verdict.specs.declared.Outcome.TheVariants.{Wait, AbortT, AbortOthers, NotYet}

abbrev pub outcome_word : Outcome → List ℕ
outcome_word Wait = codes "wait"
outcome_word AbortT = codes "abort-t"
outcome_word AbortOthers = codes "abort-others"
outcome_word NotYet = codes "not-yet"
