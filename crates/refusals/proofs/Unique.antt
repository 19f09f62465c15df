-- Two results that meet the statement of a public function are equal.
-- Assumes nothing.
--
--   job_place_unique        of the function of that name
--   first_refusal_settled   of the function of that name: two results whose refusals meet its statement
--   first_refusal_unique    of these refusals
--   from_unique             of the frame of a refusal
use mathlib.Core.Path.{◌≡◌, sym, ◌∙◌}
use mathlib.Core.List.{List}
use Prim.Native.Nat.{ℕ, ◌+◌, ◌*◌}
use Rattle.std.specs.Prelude.{Result}
use Rattle.reasons.specs.Numbers.{reason_number}
use Rattle.frames.specs.declared.Header.{Header}
use Rattle.frames.specs.declared.Refusal.{Refusal}
use Rattle.frames.specs.Kinds.{header_digits, job_digits}
use Rattle.frames.specs.Records.{refused}
use Rattle.refusals.specs.declared.Refused.{Refused}
use Rattle.refusals.specs.Results.{refused_as}
use Rattle.refusals.specs.Refused.{refusal_of}
use Rattle.refusals.proofs.ResultLaws.{refused_one}

pub job_place_unique : (h : Header) (j a b : ℕ) → a ≡ header_digits + 1 + j * (job_digits h.s + 1) → b ≡ header_digits + 1 + j * (job_digits h.s + 1) → a ≡ b
job_place_unique h j a b p q = p ∙ sym q

pub first_refusal_unique : (rows costs : ℕ) (text : List ℕ) (a b : Refusal) → a ≡ refusal_of rows costs text → b ≡ refusal_of rows costs text → a ≡ b
first_refusal_unique rows costs text a b p q = p ∙ sym q

pub first_refusal_settled : (rows costs : ℕ) (text : List ℕ) (a b : Result (Unit {0}) Refused) → refused_as a ≡ refusal_of rows costs text → refused_as b ≡ refusal_of rows costs text → a ≡ b
first_refusal_settled rows costs text a b p q = refused_one a b (first_refusal_unique rows costs text _ _ p q)

pub from_unique : (r : Refused) (a b : Refusal) → a ≡ refused (reason_number r.reason) r.line → b ≡ refused (reason_number r.reason) r.line → a ≡ b
from_unique r a b p q = p ∙ sym q
