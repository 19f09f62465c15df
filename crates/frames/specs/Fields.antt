-- The fields of a header and of a job frame (document 01, "Frames"), by the place where the frame starts. A byte is two digits.
--
--   header_at text at        the header that the digits at a place spell
--   job_at text at           the job frame, up to its pool states, that they spell
--   state_byte text at p     its state byte of pool p
use Rattle.std.specs.Prelude.{List, ℕ, ◌+◌, ◌*◌}
use Rattle.digits.specs.Digits.{byte_at, number}
use Rattle.frames.specs.declared.Header.{Header}
use Rattle.frames.specs.declared.Job.{Job}

-- "01, present tick (4 bytes), a (2), b (2), n (1), pools s (1), T (1), allowance (4)"
unfoldable pub header_at : List ℕ → ℕ → Header
header_at text at = record {
  present = record { 0 = number text (at + 2) 4 };
  a = number text (at + 10) 2;
  b = number text (at + 14) 2;
  n = byte_at text (at + 18);
  s = byte_at text (at + 20);
  t = byte_at text (at + 22);
  allowance = number text (at + 24) 4;
}

-- "02, job number (1), issue tick (4), N (4), then a byte per pool"
unfoldable pub job_at : List ℕ → ℕ → Job
job_at text at = record {
  number = byte_at text (at + 2);
  issue = record { 0 = number text (at + 4) 4 };
  operations = record { 0 = number text (at + 12) 4 };
}

unfoldable pub state_byte : List ℕ → ℕ → ℕ → ℕ
state_byte text at p = byte_at text (at + 20 + 2 * p)
