-- Two results that meet the statement of a public function are equal.
-- Assumes nothing.
--
--   header_read_unique, job_digits_unique, job_read_unique, answer_new_unique, refusal_new_unique   of the constructor of that name
use mathlib.Core.Path.{◌≡◌, sym, ◌∙◌}
use mathlib.Core.List.{List}
use Prim.Native.Nat.{ℕ}
use Rattle.frames.specs.declared.Header.{Header}
use Rattle.frames.specs.declared.Job.{Job}
use Rattle.frames.specs.declared.Answer.{Answer}
use Rattle.frames.specs.declared.Refusal.{Refusal}
use Rattle.frames.specs.Kinds.{job_digits}
use Rattle.frames.specs.Records.{answered, refused}
use Rattle.frames.specs.Fields.{header_at, job_at}

pub header_read_unique : (text : List ℕ) (at : ℕ) (a b : Header) → a ≡ header_at text at → b ≡ header_at text at → a ≡ b
header_read_unique text at a b p q = p ∙ sym q

pub job_digits_unique : (s a b : ℕ) → a ≡ job_digits s → b ≡ job_digits s → a ≡ b
job_digits_unique s a b p q = p ∙ sym q

pub job_read_unique : (text : List ℕ) (at : ℕ) (a b : Job) → a ≡ job_at text at → b ≡ job_at text at → a ≡ b
job_read_unique text at a b p q = p ∙ sym q

pub answer_new_unique : (outcome price rounds victims : ℕ) (a b : Answer) → a ≡ answered outcome price rounds victims → b ≡ answered outcome price rounds victims → a ≡ b
answer_new_unique outcome price rounds victims a b p q = p ∙ sym q

pub refusal_new_unique : (number line : ℕ) (a b : Refusal) → a ≡ refused number line → b ≡ refused number line → a ≡ b
refusal_new_unique number line a b p q = p ∙ sym q
