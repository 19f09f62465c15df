-- What the inner functions of this crate ask of one another. No statement of a public function leans on it.
-- rows, costs, work and answer are lists of bytes, rowList, costList and flows lists of numbers, τ is the timed-out job; n is the number of rows.
--
--   Lent ..                         lists of bytes as refusals 1 to 3 leave them, with lists of numbers for n rows and n costs
--   Ahead .. x                      the numbers are read, the call is not refused, a ring passes through T, and x is X
--   Started .. r work' answer'      how a call starts: it is refused or answered, or with r the X of a ring ahead nothing is written
--   Opened .. work' answer'         a decision on lists of numbers, and its bytes written
use Rattle.std.specs.Prelude.{◌≡◌, true, List, ◌++◌, ℕ, ◌*◌, ◌/◌, length, drop, Option, Some, None, Result, Ok, Err}
use Rattle.bits.specs.Mask.{MaskOf}
use Rattle.graph.specs.Waits.{waits}
use Rattle.graph.specs.Rings.{InX, RingThrough}
use Rattle.reasons.specs.declared.Reason.{Reason}
use Rattle.reasons.specs.Numbers.{reason_number}
use Rattle.codec.specs.Frame.{answer_bytes}
use Rattle.lists.specs.Numbers.{numbers_of, all_bytes}
use Rattle.verdict.specs.declared.Decision.{Decision}
use Rattle.verdict.specs.Results.Answer.{Decided}
use Rattle.checks.specs.Refusals.{Faultless}
use Rattle.verdict.specs.Called.{Called}
use Rattle.framed.specs.Framed.{frame_of}
use Rattle.bytewise.specs.Faults.{Shaped}
use Rattle.bytewise.specs.Entered.{Entered}

pub record Lent (rows costs rowList costList work answer : List ℕ) : Type 0 where
  pub shape : Shaped rows costs (length work) (length answer)
  pub row_places : length rowList ≡ length rows / 8
  pub cost_places : length costList ≡ length rows / 8

pub record Ahead (rows costs : List ℕ) (τ : ℕ) (rowList costList : List ℕ) (x : ℕ) : Type 0 where
  pub row_numbers : rowList ≡ numbers_of rows
  pub cost_numbers : costList ≡ numbers_of costs
  pub faultless : Faultless rowList costList τ (length rowList * length rowList)
  pub exact : MaskOf (InX (waits rowList) (length rowList) τ) x
  pub ring : RingThrough (waits rowList) (length rowList) τ true

abbrev pub Started : List ℕ → List ℕ → ℕ → ℕ → List ℕ → List ℕ → List ℕ → List ℕ → Result (Option ℕ) Reason → List ℕ → List ℕ → Type 0
Started rows costs τ allowance work answer rowList costList (Err reason) work' answer' = Entered rows costs τ allowance work answer (reason_number reason) work' answer'
Started rows costs τ allowance work answer rowList costList (Ok None) work' answer' = Entered rows costs τ allowance work answer 0 work' answer'
Started rows costs τ allowance work answer rowList costList (Ok (Some x)) work' answer' = Ahead rows costs τ rowList costList x × (work' ≡ work) × (answer' ≡ answer)

pub record Opened (rowList costList : List ℕ) (τ allowance : ℕ) (flows work answer work' answer' : List ℕ) : Type 0 where
  pub decision : Decision
  pub after : List ℕ
  pub called : Called rowList costList τ allowance flows (Decided decision) after
  pub flow_bytes : work' ≡ all_bytes after ++ drop (8 * length after) work
  pub frame : answer' ≡ answer_bytes (frame_of decision) ++ drop 22 answer
