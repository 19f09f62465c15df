-- The answer and the refusal that a line says, as records of their fields (document 01, "Frames").
--
--   answered outcome price rounds victims   the answer with these fields
--   refused number line                     refusal `number` at `line`
--   no_refusal                               no refusal: number 0 and line 0
use Rattle.std.specs.Prelude.{ℕ}
use Rattle.frames.specs.declared.Answer.{Answer}
use Rattle.frames.specs.declared.Refusal.{Refusal}

abbrev pub answered : ℕ → ℕ → ℕ → ℕ → Answer
answered outcome price rounds victims = record { outcome = outcome; price = price; rounds = rounds; victims = victims }

abbrev pub refused : ℕ → ℕ → Refusal
refused number line = record { number = number; line = line }

abbrev pub no_refusal : Refusal
no_refusal = refused 0 0
