-- The document's example answered, and a refusal, as the bytes that are written.
-- Assumes nothing.
--
--   example_line     "Out: 0302000000000000000D000000010000000000000002"
--   missing_line     11 at line 1, the refusal of an empty text
use mathlib.Core.Path.{◌≡◌, refl}
use mathlib.Core.List.{[], ◌∷◌, ◌++◌}
use Rattle.digits.specs.Spell.{spelt, spell}
use Rattle.frames.specs.Records.{answered, refused}
use Rattle.lines.specs.Lines.{answer_line, refusal_line}

pub example_line : answer_line (answered 2 13 1 2) ≡ spell 44 0x0302_0000_0000_0000_000D_0000_0001_0000_0000_0000_0002 ++ 10 ∷ []
unfolding answer_line spell spelt
example_line = refl

pub missing_line : refusal_line (refused 11 1) ≡ 48 ∷ 70 ∷ 48 ∷ 66 ∷ 48 ∷ 48 ∷ 48 ∷ 49 ∷ 10 ∷ []
unfolding refusal_line spell spelt
missing_line = refl
