-- The work list before the first round.
--
--   Cleared n before after    the first n × n places are 0, all others as before
use Rattle.std.specs.Prelude.{◌≡◌, List, ℕ, ◌*◌, ◌<◌, ◌≤◌, length, get_or}

pub record Cleared (n : ℕ) (before after : List ℕ) : Type 0 where
  pub size : length after ≡ length before
  pub none : (i : ℕ) → i < n * n → get_or after i 0 ≡ 0
  pub rest : (i : ℕ) → n * n ≤ i → get_or after i 0 ≡ get_or before i 0
