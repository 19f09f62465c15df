-- Jobs and their waits, as a verdict call is given them: "one 64-bit row per job (value 2^k set: it waits for job k)"
-- (document 01, "What a call takes, returns and writes"). The n jobs are the numbers below n, the length of the list.
--
--   waits rows j i   job j waits for job i: row j holds i. A job past the end of the list waits for nobody
--   Jobs rows        at most 64 jobs, and no row names a job n or above: what refusals 1 and 4 leave
--   Known rows b     b says whether no row names a job n or above
use Rattle.std.specs.Prelude.{Bool, true, false, List, ℕ, ◌<◌, ◌≤◌, T, length, get_or}
use Rattle.bits.specs.Mask.{has}

unfoldable pub waits : List ℕ → ℕ → ℕ → Bool
unfolding has
waits rows j i = has (get_or rows j 0) i

pub record Jobs (rows : List ℕ) : Type 0 where
  pub few : length rows ≤ 64
  pub known : (j i : ℕ) → T (waits rows j i) → i < length rows

-- whether no row names a job n or above (document 01, refusal 4)
pub data Known (rows : List ℕ) : Bool → Type 0 where
  all : ((j i : ℕ) → T (waits rows j i) → i < length rows) → Known rows true
  stray : (j i : ℕ) → T (waits rows j i) → length rows ≤ i → Known rows false
