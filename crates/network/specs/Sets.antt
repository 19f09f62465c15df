-- Sets of jobs whose abort opens the rings through T, and the one that the verdict takes (document 01, "The verdict").
-- A set is a test of jobs; w tests waits among n jobs, τ is the timed-out job.
--
--   Exactly n P M          the test M passes for those jobs below n of which P is true
--   Passes M p             the list of jobs p has one of the set M
--   Opens w n τ M          M is of "jobs of X, without T, whose abort opens every ring through T"
--   price n cost M         "total cost"
--   avoid w M u v          job u is outside M and waits for v
--   Left w n τ M u         u is one of the "jobs of X, outside the set and other than T, from which T can still be reached without passing through the set"
--   LeftCount w n τ M k    M leaves k such jobs
--   Best w n τ cost M      M is the set that the verdict takes
use Rattle.std.specs.Prelude.{◌≡◌, ◌⊎◌, ◌≢◌, Bool, not, List, [], ◌∷◌, ℕ, ◌≤◌, ◌<◌, T}
use Rattle.sums.specs.Tests.{both}
use Rattle.sums.specs.Sum.{sum, gate, count}
use Rattle.walks.specs.Walk.{Reaches}
use Rattle.graph.specs.Rings.{Ring, InX}

pub record Exactly (n : ℕ) (P : ℕ → Type 0) (M : ℕ → Bool) : Type 0 where
  pub sound : (u : ℕ) → u < n → T (M u) → P u
  pub complete : (u : ℕ) → u < n → P u → T (M u)

abbrev pub Passes : (ℕ → Bool) → List ℕ → Type 0
Passes M [] = ⊥
Passes M (u ∷ p) = T (M u) ⊎ Passes M p

pub record Opens (w : ℕ → ℕ → Bool) (n τ : ℕ) (M : ℕ → Bool) : Type 0 where
  pub inside : (u : ℕ) → u < n → T (M u) → InX w n τ u × (u ≢ τ)
  pub met : (p : List ℕ) → Ring w n τ p → Passes M p

unfoldable pub price : ℕ → (ℕ → ℕ) → (ℕ → Bool) → ℕ
unfolding sum
price n cost M = sum n (λ u. gate (M u) (cost u))

abbrev pub avoid : (ℕ → ℕ → Bool) → (ℕ → Bool) → ℕ → ℕ → Bool
avoid w M u v = both (not (M u)) (w u v)

pub record Left (w : ℕ → ℕ → Bool) (n τ : ℕ) (M : ℕ → Bool) (u : ℕ) : Type 0 where
  pub member : InX w n τ u
  pub outside : T (M u) → ⊥
  pub other : u ≢ τ
  pub home : Reaches (avoid w M) n u τ

pub record LeftCount (w : ℕ → ℕ → Bool) (n τ : ℕ) (M : ℕ → Bool) (k : ℕ) : Type 0 where
  pub left : ℕ → Bool
  pub exact : Exactly n (Left w n τ M) left
  pub number : count n left ≡ k

-- "Take the least total cost. Among the sets of that cost take the one that leaves the fewest jobs .."
pub record Best (w : ℕ → ℕ → Bool) (n τ : ℕ) (cost : ℕ → ℕ) (M : ℕ → Bool) : Type 0 where
  pub opens : Opens w n τ M
  pub cheapest : (L : ℕ → Bool) → Opens w n τ L → price n cost M ≤ price n cost L
  pub fewest : (L : ℕ → Bool) → Opens w n τ L → price n cost L ≡ price n cost M
      → (j k : ℕ) → LeftCount w n τ M j → LeftCount w n τ L k → j ≤ k
