-- Waits worked out of a pool table (document 01, "Waits and costs": "For each pool a job has no server there, is active, or is waiting").
-- The table is a list of bytes: place j × s + p has the state of job j at pool p, of n jobs and s pools.
-- Pool states (document 01, "Frames"): "00 none, 01 active, 02 waiting".
--
--   is_active, is_waiting       the tests of a state
--   blocks w a                a job in state w at a pool waits for a job in state a there
--   state_at states s j p      the state of job j at pool p
--   Table states n s          the list has the states of n jobs at s pools
--   ActiveAt states n s p i   job i is active at pool p
--   WaitsFor states n s j i   job j waits for job i
use Rattle.std.specs.Prelude.{Bool, List, ◌≢◌, ℕ, ◌+◌, ◌*◌, ◌<◌, ◌≤◌, T, eqb, length, get_or}
use Rattle.sums.specs.Tests.{both}

abbrev pub is_active : ℕ → Bool
is_active state = eqb state 1

abbrev pub is_waiting : ℕ → Bool
is_waiting state = eqb state 2

unfoldable pub blocks : ℕ → ℕ → Bool
blocks w a = both (is_waiting w) (is_active a)

unfoldable pub state_at : List ℕ → ℕ → ℕ → ℕ → ℕ
state_at states s j p = get_or states (j * s + p) 0

pub record Table (states : List ℕ) (n s : ℕ) : Type 0 where
  pub jobs : n ≤ 64
  pub pools : s ≤ 16
  pub size : n * s ≤ length states

pub record ActiveAt (states : List ℕ) (n s p i : ℕ) : Type 0 where
  pub job : i < n
  pub active : T (is_active (state_at states s i p))

-- "Job j waits for job i, with j and i different, exactly when at some pool j is waiting and i is active."
pub record WaitsFor (states : List ℕ) (n s j i : ℕ) : Type 0 where
  pub job : i < n
  pub apart : j ≢ i
  pub pool : ℕ
  pub here : pool < s
  pub blocked : T (blocks (state_at states s j pool) (state_at states s i pool))
