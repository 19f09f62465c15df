-- The costs of a snapshot as a list, one a job (document 01, "What a call takes, returns and writes": "one cost per job").
--
--   cost_at costs u    job u's cost
use Rattle.std.specs.Prelude.{List, ℕ, get_or}

unfoldable pub cost_at : List ℕ → ℕ → ℕ
cost_at costs u = get_or costs u 0
