-- The levels of a search, by which further paths of the same length are found without a search of their own: what the inner functions `layer` and `descend` promise.
-- No statement of a public function leans on it. Where `descend` answers 0 it promises no more than levels: the search that follows decides whether a path is left.
-- Place k of L has a mask of jobs: those of nodes that a shortest path can have behind k steps. Steps lead from an in-node to an out-node or the other way,
-- so the number of steps says which node of a job is meant. S has the masks of the steps, s is the source and t the sink; qs, ps, e as in `Sought` of the search.
--
--   turns qs i           how often the side changes in the queue up to place i: a queue in breadth has its nodes level by level, and each level on one side
--   Layerable, Layered   what `layer` is given: a queue up to place e, of nodes. What it leaves: the nodes of each level, and in the last level that of place e alone
--   Levels S s t L       no path is shorter than `depth`, and those of that length lead through L: `rank` is the number of steps behind which a node can stand on them
--   Descent              a path of a round whose length is that of the levels
--   Descendable, Descended
--                        what `descend` is given, and what it leaves: where e is not 0 such a path, and levels in any case
--   Lowered              `Descended` at the length that it answers, which is not 0, or at 0 where it answers none
use Rattle.std.specs.Prelude.{◌≡◌, ◌≢◌, List, ℕ, zero, suc, ◌+◌, ◌/◌, ◌%◌, ◌^◌, ◌<◌, ◌≤◌, T, length, Option, None, Some}
use Rattle.bits.specs.Mask.{Has}
use Rattle.walks.specs.Walk.{Walk}
use Rattle.network.specs.Rooms.{step}
use Rattle.search.specs.Masks.{at, masked}
use Rattle.search.specs.Sought.{Ready, Path}

-- ---- from a queue

unfoldable pub turns : List ℕ → ℕ → ℕ
turns qs zero = 0
turns qs (suc i) = turns qs i + (at qs i + at qs (suc i)) % 2

pub record Layerable (qs : List ℕ) (e : ℕ) (L : List ℕ) : Type 0 where
  pub queue : length qs ≡ 128
  pub levels : length L ≡ 128
  pub place : e < 128
  pub nodes : (i : ℕ) → i ≤ e → at qs i < 128

pub record Layered (qs : List ℕ) (e : ℕ) (L : List ℕ) : Type 0 where
  pub size : length L ≡ 128
  pub all : (i : ℕ) → i < e → turns qs i < turns qs e → Has (at L (turns qs i)) (at qs i / 2)
  pub only : (k j : ℕ) → k < turns qs e → Has (at L k) j → (i : ℕ) × (i < e) × (turns qs i ≡ k) × (at qs i / 2 ≡ j)
  pub last : at L (turns qs e) ≡ 2 ^ (at qs e / 2)
  pub small : (k : ℕ) → k ≤ turns qs e → at L k < 2 ^ 64

-- ---- the levels

pub record Levels (S : List ℕ) (s t : ℕ) (L : List ℕ) : Type 0 where
  pub size : length L ≡ 128
  pub depth : ℕ
  pub rank : ℕ → ℕ
  pub some : 0 < depth
  pub deep : depth < 128
  pub small : (k : ℕ) → k ≤ depth → at L k < 2 ^ 64
  pub source : rank s ≡ 0
  pub sink : rank t ≡ depth
  pub sides : (s + depth + t) % 2 ≡ 0
  -- no step leads more than one level on
  pub slow : (a b : ℕ) → a < 128 → b < 128 → T (step (masked S) a b) → rank b ≤ suc (rank a)
  -- L has nodes of their levels only, and all from which the rest of a path of that length leads to the sink
  pub only : (a k : ℕ) → a < 128 → k ≤ depth → (s + k + a) % 2 ≡ 0 → Has (at L k) (a / 2) → rank a ≡ k
  pub all : (a : ℕ) (p : List ℕ) → a < 128 → Walk (step (masked S)) 128 a t p → rank a + length p ≡ depth → Has (at L (rank a)) (a / 2)
  pub last : (a : ℕ) → a < 128 → (s + depth + a) % 2 ≡ 0 → Has (at L depth) (a / 2) → a ≡ t

pub record Descent (S : List ℕ) (s t : ℕ) (L qs ps : List ℕ) (e : ℕ) : Type 0 where
  pub levels : Levels S s t L
  pub path : Path S s t qs ps e
  pub even : length path.nodes ≡ levels.depth

pub record Descendable (S : List ℕ) (s t : ℕ) (L qs ps : List ℕ) : Type 0 where
  pub ready : Ready s t qs ps
  pub levels : Levels S s t L

pub record Descended (S : List ℕ) (s t : ℕ) (L qs ps : List ℕ) (e : ℕ) : Type 0 where
  pub queue : length qs ≡ 128
  pub parent : length ps ≡ 128
  pub place : e < 128
  pub levels : Levels S s t L
  pub found : e ≢ 0 → Descent S s t L qs ps e

abbrev pub Lowered : List ℕ → ℕ → ℕ → List ℕ → List ℕ → List ℕ → Option ℕ → Type 0
Lowered S s t L qs ps None = Descended S s t L qs ps 0
Lowered S s t L qs ps (Some e) = (0 < e) × Descended S s t L qs ps e
