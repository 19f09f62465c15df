-- The line R T r1 .. rR: how many rows, the job T, and the rows.
--
--   opening text at i    the i-th of the two numbers that the line at a place of the text begins with, from 0 on
--   QuestionAt ..        what stands on the line, and where the next one starts
--   NoRoom text at       the line has more than 64 rows
use Rattle.std.specs.Prelude.{◌≡◌, List, ℕ, ◌<◌, get_or}
use Rattle.words.specs.Words.{words_at, words_end}

abbrev pub opening : List ℕ → ℕ → ℕ → ℕ
opening text at i = get_or (words_at text at 2) i 0

pub record QuestionAt (text : List ℕ) (at : ℕ) (rows : List ℕ) (t next : ℕ) : Type 0 where
  pub rows_read : rows ≡ words_at text (words_end text at 2) (opening text at 0)
  pub t_read : t ≡ opening text at 1
  pub next_read : next ≡ words_end text (words_end text at 2) (opening text at 0)

abbrev pub NoRoom : List ℕ → ℕ → Type 0
NoRoom text at = 64 < opening text at 0
