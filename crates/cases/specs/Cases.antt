-- The line R C W T A r1 .. rR c1 .. cC of a verdict call: how many rows, costs and work places, the job T, the allowance, the rows and the costs.
--
--   opening text at i     the i-th of the five numbers that the line at a place of the text begins with, from 0 on
--   rows_from text at     where its rows start
--   costs_from text at    where its costs start
--   CaseAt ..             what stands on the line, and where the next one starts
--   NoRoom text at        the line has more than 80 rows, 80 costs or 6,400 work places
use Rattle.std.specs.Prelude.{◌≡◌, ◌⊎◌, List, ℕ, ◌%◌, ◌^◌, ◌<◌, get_or}
use Rattle.words.specs.Words.{words_at, words_end}

abbrev pub opening : List ℕ → ℕ → ℕ → ℕ
opening text at i = get_or (words_at text at 5) i 0

abbrev pub rows_from : List ℕ → ℕ → ℕ
rows_from text at = words_end text at 5

abbrev pub costs_from : List ℕ → ℕ → ℕ
costs_from text at = words_end text (rows_from text at) (opening text at 0)

pub record CaseAt (text : List ℕ) (at : ℕ) (rows costs : List ℕ) (places t allowance next : ℕ) : Type 0 where
  pub rows_read : rows ≡ words_at text (rows_from text at) (opening text at 0)
  pub costs_read : costs ≡ words_at text (costs_from text at) (opening text at 1)
  pub places_read : places ≡ opening text at 2
  pub t_read : t ≡ opening text at 3
  pub allowance_read : allowance ≡ opening text at 4 % 2 ^ 32
  pub next_read : next ≡ words_end text (costs_from text at) (opening text at 1)

abbrev pub NoRoom : List ℕ → ℕ → Type 0
NoRoom text at = (80 < opening text at 0) ⊎ (80 < opening text at 1) ⊎ (6400 < opening text at 2)
