-- Walks along steps between numbers: along waits between jobs, and along steps with room between the nodes of a network.
-- Document 01: "T reaches along waits", "a closed walk along one or more waits; it may pass a job twice", "a shortest path of steps".
-- A step is given by a test: st a b passes where a step leads from a to b.
--
--   Walk st N a t p     p lists what comes after a on a walk from a to t, all of it below N; no step at all leads from a to a
--   Reaches st N a t    some walk of no or more steps leads from a to t
--   Away st N a t k     t is k steps away from a: a walk of k steps leads there, and none of fewer
use Rattle.std.specs.Prelude.{◌≡◌, Bool, List, [], ◌∷◌, ℕ, ◌<◌, ◌≤◌, T, length}

abbrev pub Walk : (ℕ → ℕ → Bool) → ℕ → ℕ → ℕ → List ℕ → Type 0
Walk st N a t [] = a ≡ t
Walk st N a t (b ∷ p) = (b < N) × T (st a b) × Walk st N b t p

pub record Reaches (st : ℕ → ℕ → Bool) (N a t : ℕ) : Type 0 where
  pub path : List ℕ
  pub walk : Walk st N a t path

pub record Away (st : ℕ → ℕ → Bool) (N a t k : ℕ) : Type 0 where
  pub path : List ℕ
  pub walk : Walk st N a t path
  pub steps : length path ≡ k
  pub shortest : (p : List ℕ) → Walk st N a t p → k ≤ length p
