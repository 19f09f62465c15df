-- The words for the refusals of one line, as the tests that they are made of, for the tactics.
-- Assumes nothing.
--
--   header_fault_is .. job_fault_is   each word as nested choices
--   fault_steps                       all of them
use mathlib.Core.Path.{◌≡◌, refl}
use mathlib.Core.Bool.{not, cond, ◌||◌}
use mathlib.Core.List.{List}
use Prim.Native.Nat.{ℕ, ◌^◌, ◌≤◌}
use native.Mathlib.Omega.{arith}
use lib.Dec.{leb, ltb, eqb}
use Rattle.std.proofs.lemmas.Bool.Decides.{nat_tests}
use Rattle.std.specs.Prelude.{Ok, Err}
use Rattle.reasons.specs.declared.Reason.{Reason}
use Rattle.reasons.specs.Numbers.{reason_number}
use Rattle.reasons.proofs.NumberLaws.{reason_positive}
use Rattle.cursor.specs.Order.{◌then◌, ◌when◌}
use Rattle.cursor.specs.Frame.{frame_fault}
use Rattle.ticks.specs.declared.Ticks.{Ticks}
use Rattle.ticks.specs.declared.Operations.{Operations}
use Rattle.ticks.specs.Costs.{age_of}
use Rattle.frames.specs.declared.Header.{Header}
use Rattle.frames.specs.declared.Job.{Job}
use Rattle.frames.specs.Kinds.{header_kind, header_digits, job_kind, job_digits}
use Rattle.frames.specs.Fields.{header_at, job_at}
use Rattle.faults.specs.HeaderFault.{in_range, header_fault}
use Rattle.faults.specs.JobFault.{age_fault, operations_fault, fields_fault, state_above, waits_in, job_fault}

pub header_fault_is : (t : List ℕ) (at : ℕ) → header_fault t at ≡ cond (eqb (frame_fault t at header_kind header_digits) 0) (cond (not (in_range (header_at t at))) 12 0) (frame_fault t at header_kind header_digits)
unfolding header_fault ◌then◌ ◌when◌
header_fault_is t at = refl

pub age_fault_is : (present issue : Ticks) → age_fault present issue ≡ cond (leb (2 ^ 31) (age_of present issue).0) 15 0
unfolding age_fault ◌when◌
age_fault_is present issue = refl

pub operations_fault_is : (m : Operations) → operations_fault m ≡ cond (eqb m.0 0 || ltb (2 ^ 20) m.0) 14 0
unfolding operations_fault ◌when◌
operations_fault_is m = refl

pub fields_fault_is : (h : Header) (due : ℕ) (job : Job) → fields_fault h due job ≡ cond (eqb job.number due) (cond (eqb (age_fault h.present job.issue) 0) (operations_fault job.operations) (age_fault h.present job.issue)) 13
unfolding fields_fault ◌then◌ ◌when◌
fields_fault_is h due job = grind (arith, nat_tests)

pub job_fault_is : (h : Header) (t : List ℕ) (due at : ℕ) → job_fault h t due at
    ≡ cond (eqb (frame_fault t at job_kind (job_digits h.s)) 0)
    (cond (eqb (fields_fault h due (job_at t at)) 0) (cond (state_above t at h.s) 16 (cond (ltb 1 (waits_in t at h.s)) 17 0)) (fields_fault h due (job_at t at)))
    (frame_fault t at job_kind (job_digits h.s))
unfolding job_fault ◌then◌ ◌when◌
job_fault_is h t due at = grind (arith, nat_tests)

pub ruleset fault_steps = (nat_tests, reason_positive, header_fault_is, age_fault_is, operations_fault_is, fields_fault_is, job_fault_is)
