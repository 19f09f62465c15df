-- The bytes of an answer frame (document 01, "What a call takes, returns and writes": "The answer is the 22 bytes of an answer frame in a lent list").
--
--   answer_bytes a   "Answer: 03, outcome (1), price (8), rounds (4), victims (8)"
use Rattle.std.specs.Prelude.{List, ◌++◌, ℕ}
use Rattle.frames.specs.declared.Answer.{Answer}
use Rattle.frames.specs.Kinds.{answer_kind}
use Rattle.codec.specs.Bytes.{bytes_of}

unfoldable pub answer_bytes : Answer → List ℕ
unfolding bytes_of
answer_bytes a = bytes_of 1 answer_kind ++ bytes_of 1 a.outcome ++ bytes_of 8 a.price ++ bytes_of 4 a.rounds ++ bytes_of 8 a.victims
