-- The path of a round, among N nodes, from the source s to the sink t. A path is the list of its nodes after the source.
-- Document 01: "A round takes a shortest path of steps from source to sink. Among shortest paths it takes the one whose list of nodes
-- is first when compared node number by node number. It pushes the largest amount that every step allows."
--
--   Before p q         p is q, or comes before it when compared number by number
--   Taken r N s t p    p is the path that a round takes
--   Allows r d a p     every step of the path p from a allows d
--   Most r a p d       d is the largest amount that every step of it allows
use Rattle.std.specs.Prelude.{◌≡◌, ◌⊎◌, List, [], ◌∷◌, ℕ, ◌≤◌, ◌<◌, length}
use Rattle.walks.specs.Walk.{Walk}
use Rattle.network.specs.Rooms.{Room, step}

abbrev pub Before : List ℕ → List ℕ → Type 0
Before [] q = Unit {0}
Before (x ∷ p) [] = ⊥
Before (x ∷ p) (y ∷ q) = (x < y) ⊎ ((x ≡ y) × Before p q)

pub record Taken (r : Room) (N s t : ℕ) (p : List ℕ) : Type 0 where
  pub walk : Walk (step r) N s t p
  pub shortest : (q : List ℕ) → Walk (step r) N s t q → length p ≤ length q
  pub first : (q : List ℕ) → Walk (step r) N s t q → length q ≡ length p → Before p q

abbrev pub Allows : Room → ℕ → ℕ → List ℕ → Type 0
Allows r d a [] = Unit {0}
Allows r d a (b ∷ p) = (d ≤ r a b) × Allows r d b p

pub record Most (r : Room) (a : ℕ) (p : List ℕ) (d : ℕ) : Type 0 where
  pub allowed : Allows r d a p
  pub largest : (e : ℕ) → Allows r e a p → e ≤ d
