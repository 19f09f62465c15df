-- What the first pass returns, as the refusal that it stands for.
--
--   refused_as r    the refusal of a result: number 0 at line 0 where the text is taken
use Rattle.std.specs.Prelude.{Result, Ok, Err}
use Rattle.reasons.specs.Numbers.{reason_number}
use Rattle.frames.specs.declared.Refusal.{Refusal}
use Rattle.frames.specs.Records.{refused, no_refusal}
use Rattle.refusals.specs.declared.Refused.{Refused}

abbrev pub refused_as : Result (Unit {0}) Refused → Refusal
refused_as (Ok _) = no_refusal
refused_as (Err r) = refused (reason_number r.reason) r.line
