-- The numbers of the refusals (document 01, the table of refusals; "A refusal returns its number").
--
--   reason_number reason    the document's number of a reason
--   refusal_number r        what a call returns for C: the number of its refusal, or 0 where it is not refused
use Rattle.std.specs.Prelude.{ℕ, Result, Ok, Err}
use Rattle.reasons.specs.declared.Reason.{Reason}
use Rattle.reasons.specs.declared.Reason.TheVariants.{BadRows, BadCosts, TooFewPlaces, StrayJob, WaitsForItself, NoSuchJob, BadCost, CostsTooHigh, TextTooLong, BadLine, WrongFrame, BadHeader, NotTheNextJob, BadOperations, ClockWentBack, BadState, WaitsTwice, TWaitsNowhere}

abbrev pub reason_number : Reason → ℕ
reason_number BadRows = 1
reason_number BadCosts = 2
reason_number TooFewPlaces = 3
reason_number StrayJob = 4
reason_number WaitsForItself = 5
reason_number NoSuchJob = 6
reason_number BadCost = 7
reason_number CostsTooHigh = 8
reason_number TextTooLong = 9
reason_number BadLine = 10
reason_number WrongFrame = 11
reason_number BadHeader = 12
reason_number NotTheNextJob = 13
reason_number BadOperations = 14
reason_number ClockWentBack = 15
reason_number BadState = 16
reason_number WaitsTwice = 17
reason_number TWaitsNowhere = 18

abbrev pub refusal_number : Result (Unit {0}) Reason → ℕ
refusal_number (Ok _) = 0
refusal_number (Err reason) = reason_number reason
