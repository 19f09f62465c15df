-- The frames' numbers (document 01, "Frames"): "Each frame kind owns its numbers: kind byte and digit count."
--
--   header_kind, header_digits     "Header, 32 digits: 01"
--   job_kind, job_digits s         "Job, 20 + 2s digits: 02"
--   answer_kind, answer_digits     "Answer, 44 digits: 03"
--   refusal_kind, refusal_digits   "Refusal, 8 digits: 0F"
use Rattle.std.specs.Prelude.{ℕ, ◌+◌, ◌*◌}

abbrev pub header_kind : ℕ
header_kind = 0x01

abbrev pub header_digits : ℕ
header_digits = 32

abbrev pub job_kind : ℕ
job_kind = 0x02

abbrev pub job_digits : ℕ → ℕ
job_digits s = 20 + 2 * s

abbrev pub answer_kind : ℕ
answer_kind = 0x03

abbrev pub answer_digits : ℕ
answer_digits = 44

abbrev pub refusal_kind : ℕ
refusal_kind = 0x0F

abbrev pub refusal_digits : ℕ
refusal_digits = 8
