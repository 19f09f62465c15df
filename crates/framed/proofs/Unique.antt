-- Two results that meet the statement of `answer_frame` are equal.
-- Assumes nothing.
use mathlib.Core.Path.{◌≡◌, sym, ◌∙◌}
use Rattle.verdict.specs.declared.Decision.{Decision}
use Rattle.frames.specs.declared.Answer.{Answer}
use Rattle.framed.specs.Framed.{frame_of}

pub answer_frame_unique : (d : Decision) (a b : Answer) → a ≡ frame_of d → b ≡ frame_of d → a ≡ b
answer_frame_unique d a b p q = p ∙ sym q
