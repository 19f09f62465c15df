-- The whole statement of the C entry, on all inputs (document 01, "What a call takes, returns and writes": "Through the C entry each list is bytes,
-- 8 a number, most significant first. The answer is the 22 bytes of an answer frame in a lent list, and the call returns the refusal number or 0.").
-- rows, costs, work and answer are lists of bytes, τ is the timed-out job (the document's T).
--
--   Entered rows costs τ allowance work answer k work' answer'  the call returns k, and leaves work' and answer' in the lent lists
use Rattle.std.specs.Prelude.{List, ◌++◌, ℕ, ◌*◌, length, drop, replicate}
use Rattle.codec.specs.Frame.{answer_bytes}
use Rattle.lists.specs.Numbers.{numbers_of, all_bytes}
use Rattle.verdict.specs.declared.Decision.{Decision}
use Rattle.verdict.specs.Results.Answer.{Decided}
use Rattle.verdict.specs.Called.{Called}
use Rattle.framed.specs.Framed.{frame_of}
use Rattle.bytewise.specs.Faults.{EntryRefusal, EntryFaultless}

pub data Entered (rows costs : List ℕ) (τ allowance : ℕ) (work answer : List ℕ) : ℕ → List ℕ → List ℕ → Type 0 where
  -- "A refusal returns its number; all lent lists stay unwritten."
  refuses : (k : ℕ) → EntryRefusal rows costs τ (length work) (length answer) k → Entered rows costs τ allowance work answer k work answer
  -- Otherwise a verdict call on the numbers, with n × n places for the flows, decides d and leaves the flows: their bytes and those of the answer frame
  -- stand at the front of the lent lists, and all places behind them keep their values.
  answers : (d : Decision) (flows : List ℕ) → EntryFaultless rows costs τ (length work) (length answer)
      → Called (numbers_of rows) (numbers_of costs) τ allowance (replicate (length (numbers_of rows) * length (numbers_of rows)) 0) (Decided d) flows
      → Entered rows costs τ allowance work answer 0 (all_bytes flows ++ drop (8 * length flows) work) (answer_bytes (frame_of d) ++ drop 22 answer)
