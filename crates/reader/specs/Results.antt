-- The reader's result, in the document's numbers.
--
--   read_as r    after a refusal n, T and the allowance are 0
use Rattle.std.specs.Prelude.{Result, Ok, Err}
use Rattle.reasons.specs.Numbers.{reason_number}
use Rattle.frames.specs.Records.{refused, no_refusal}
use Rattle.refusals.specs.declared.Refused.{Refused}
use Rattle.reader.specs.declared.Snapshot.{Snapshot}
use Rattle.reader.specs.Reading.{Reading}

abbrev pub read_as : Result Snapshot Refused → Reading
read_as (Ok s) = record { refusal = no_refusal; n = s.n; t = s.t; allowance = s.allowance }
read_as (Err r) = record { refusal = refused (reason_number r.reason) r.line; n = 0; t = 0; allowance = 0 }
