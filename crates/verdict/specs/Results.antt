-- What a verdict call returns (document 01, "What a call takes, returns and writes").
--
--   Answer             a refusal, by its number, or a decision
--   answer_of result   the answer that a result of the call is
use Rattle.std.specs.Prelude.{ℕ, Result, Ok, Err}
use Rattle.reasons.specs.declared.Reason.{Reason}
use Rattle.reasons.specs.Numbers.{reason_number}
use Rattle.verdict.specs.declared.Decision.{Decision}

pub data Answer : Type 0 where
  Refused : ℕ → Answer
  Decided : Decision → Answer

abbrev pub answer_of : Result Decision Reason → Answer
answer_of (Ok d) = Decided d
answer_of (Err reason) = Refused (reason_number reason)
