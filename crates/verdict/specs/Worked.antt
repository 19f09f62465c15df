-- The snapshots that document 01 works by hand ("Snapshots worked by hand": "T is 0; costs are in job order; the allowance is 100 unless given").
-- The document stars A to J; K and L stand here too.
--
--   Case, entry   rows, costs, allowance; outcome by its number, price, rounds and victims
--   Right c       the case is an accepted snapshot, with n × n places of work, and that is its verdict
--   All P cs      P is true of each case of the list
--   table         the cases. Where the document gives no number of rounds it is 1 for a single ring
use Rattle.std.specs.Prelude.{List, [], ◌∷◌, ℕ, ◌*◌, length}
use Rattle.graph.specs.Waits.{waits}
use Rattle.network.specs.Costs.{cost_at}
use Rattle.checks.specs.Refusals.{Faultless}
use Rattle.verdict.specs.Answers.{Verdict}

pub record Case : Type 0 where
  pub rows : List ℕ
  pub costs : List ℕ
  pub allowance : ℕ
  pub outcome : ℕ
  pub price : ℕ
  pub rounds : ℕ
  pub victims : ℕ

abbrev pub entry : List ℕ → List ℕ → ℕ → ℕ → ℕ → ℕ → ℕ → Case
entry r c a o p k v = record { rows = r; costs = c; allowance = a; outcome = o; price = p; rounds = k; victims = v }

abbrev pub Right : Case → Type 0
Right c = Faultless c.rows c.costs 0 (length c.rows * length c.rows)
    × Verdict (waits c.rows) (length c.rows) 0 (cost_at c.costs) c.allowance c.outcome c.price c.rounds c.victims

abbrev pub All : (Case → Type 0) → List Case → Type 0
All P [] = Unit {0}
All P (c ∷ cs) = P c × All P cs

abbrev pub table : List Case
table =
    -- A: none, n = 1; wait, 0 rounds
    entry (0 ∷ []) (7 ∷ []) 100 0 0 0 0
    -- B: {1}, price 3, 1 round
    ∷ entry (2 ∷ 1 ∷ []) (5 ∷ 3 ∷ []) 100 2 3 1 2
    -- C: {0}, price 3, 1 round
    ∷ entry (2 ∷ 1 ∷ []) (3 ∷ 5 ∷ []) 100 1 3 1 1
    -- D: {1}, price 4
    ∷ entry (2 ∷ 1 ∷ []) (4 ∷ 4 ∷ []) 100 2 4 1 2
    -- E: {2}, price 4
    ∷ entry (2 ∷ 4 ∷ 1 ∷ []) (9 ∷ 4 ∷ 4 ∷ []) 100 2 4 1 4
    -- F: {1, 2}, price 5, 2 rounds
    ∷ entry (6 ∷ 8 ∷ 8 ∷ 1 ∷ []) (20 ∷ 2 ∷ 3 ∷ 9 ∷ []) 100 2 5 2 6
    -- G: {3}, price 5, 2 rounds
    ∷ entry (6 ∷ 8 ∷ 8 ∷ 1 ∷ []) (20 ∷ 2 ∷ 3 ∷ 5 ∷ []) 100 2 5 2 8
    -- H: {0}, price 4, 2 rounds
    ∷ entry (6 ∷ 8 ∷ 8 ∷ 1 ∷ []) (4 ∷ 2 ∷ 3 ∷ 9 ∷ []) 100 1 4 2 1
    -- I: wait
    ∷ entry (2 ∷ 4 ∷ 2 ∷ []) (1 ∷ 1 ∷ 1 ∷ []) 100 0 0 0 0
    -- J: {3, 4}, price 2, 2 rounds
    ∷ entry (6 ∷ 24 ∷ 8 ∷ 1 ∷ 1 ∷ []) (9 ∷ 1 ∷ 1 ∷ 1 ∷ 1 ∷ []) 100 2 2 2 24
    -- K: as F with allowance 1: not yet, 1 round
    ∷ entry (6 ∷ 8 ∷ 8 ∷ 1 ∷ []) (20 ∷ 2 ∷ 3 ∷ 9 ∷ []) 1 3 0 1 0
    -- L: as B with allowance 0: not yet, 0 rounds
    ∷ entry (2 ∷ 1 ∷ []) (5 ∷ 3 ∷ []) 0 3 0 0 0
    ∷ []
