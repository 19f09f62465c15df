-- The answer frame of a verdict (document 01, "Frames": "Answer, 44 digits: 03, outcome .., price (8), rounds (4), victims (8, job k as 2^k)").
--
--   frame_of d    the answer frame of a decision: its outcome by the document's number, price, rounds, victims
use Rattle.verdict.specs.declared.Decision.{Decision}
use Rattle.verdict.specs.Answers.{outcome_number}
use Rattle.frames.specs.declared.Answer.{Answer}
use Rattle.frames.specs.Records.{answered}

abbrev pub frame_of : Decision → Answer
frame_of d = answered (outcome_number d.outcome) d.price d.rounds d.victims
