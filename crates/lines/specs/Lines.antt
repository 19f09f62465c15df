-- The lines that are written (document 01, "Frames"), byte by byte with their line feed.
--
--   answer_line a     "Answer, 44 digits: 03, outcome (1), price (8), rounds (4), victims (8)": a byte is two digits
--   refusal_line r    "Refusal, 8 digits: 0F, number (1), line (2)"
use Rattle.std.specs.Prelude.{List, [], ◌∷◌, ◌++◌, ℕ}
use Rattle.digits.specs.Spell.{spell}
use Rattle.frames.specs.declared.Answer.{Answer}
use Rattle.frames.specs.declared.Refusal.{Refusal}
use Rattle.frames.specs.Kinds.{answer_kind, refusal_kind}

unfoldable pub answer_line : Answer → List ℕ
answer_line a = spell 2 answer_kind ++ spell 2 a.outcome ++ spell 16 a.price ++ spell 8 a.rounds ++ spell 16 a.victims ++ (10 ∷ [])

unfoldable pub refusal_line : Refusal → List ℕ
refusal_line r = spell 2 refusal_kind ++ spell 2 r.number ++ spell 4 r.line ++ (10 ∷ [])
