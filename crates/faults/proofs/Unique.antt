-- Two results that meet the statement of a public function are equal.
-- Assumes nothing.
--
--   state_unique, waits_in_unique            of the function of that name
--   header_fault_settled, job_fault_settled   of the function of that name: two results whose numbers meet its statement
--   header_fault_unique, job_fault_unique     of these numbers
use mathlib.Core.Path.{◌≡◌, sym, ◌∙◌}
use mathlib.Core.List.{List}
use Prim.Native.Nat.{ℕ}
use Rattle.std.specs.Prelude.{Result}
use Rattle.reasons.specs.declared.Reason.{Reason}
use Rattle.reasons.specs.Numbers.{refusal_number}
use Rattle.reasons.proofs.NumberLaws.{refusal_one}
use Rattle.frames.specs.declared.Header.{Header}
use Rattle.frames.specs.Fields.{state_byte}
use Rattle.faults.specs.HeaderFault.{header_fault}
use Rattle.faults.specs.JobFault.{waits_in, job_fault}

pub header_fault_unique : (text : List ℕ) (at a b : ℕ) → a ≡ header_fault text at → b ≡ header_fault text at → a ≡ b
header_fault_unique text at a b p q = p ∙ sym q

pub header_fault_settled : (text : List ℕ) (at : ℕ) (a b : Result (Unit {0}) Reason) → refusal_number a ≡ header_fault text at → refusal_number b ≡ header_fault text at → a ≡ b
header_fault_settled text at a b p q = refusal_one a b (header_fault_unique text at _ _ p q)

pub state_unique : (text : List ℕ) (at p a b : ℕ) → a ≡ state_byte text at p → b ≡ state_byte text at p → a ≡ b
state_unique text at p a b e f = e ∙ sym f

pub waits_in_unique : (text : List ℕ) (at s a b : ℕ) → a ≡ waits_in text at s → b ≡ waits_in text at s → a ≡ b
waits_in_unique text at s a b p q = p ∙ sym q

pub job_fault_unique : (h : Header) (text : List ℕ) (due at a b : ℕ) → a ≡ job_fault h text due at → b ≡ job_fault h text due at → a ≡ b
job_fault_unique h text due at a b p q = p ∙ sym q

pub job_fault_settled : (h : Header) (text : List ℕ) (due at : ℕ) (a b : Result (Unit {0}) Reason) → refusal_number a ≡ job_fault h text due at → refusal_number b ≡ job_fault h text due at → a ≡ b
job_fault_settled h text due at a b p q = refusal_one a b (job_fault_unique h text due at _ _ p q)
