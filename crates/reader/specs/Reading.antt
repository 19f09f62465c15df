-- What the reader returns, in the document's numbers ("On success it returns n, T and the allowance"; "A refusal returns its number").
--
--   Reading    the refusal with its line, number 0 at line 0 where the text is taken; n, T and the allowance
use Rattle.std.specs.Prelude.{ℕ}
use Rattle.frames.specs.declared.Refusal.{Refusal}

pub record Reading : Type 0 where
  pub refusal : Refusal
  pub n : ℕ
  pub t : ℕ
  pub allowance : ℕ
