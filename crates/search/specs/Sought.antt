-- What a search from the source s to the sink t leaves (document 01, "The network and its rounds": "A round takes a shortest path of steps from source to sink. Among
-- shortest paths it takes the one whose list of nodes is first when compared node number by node number.").
-- qs is the queue: the nodes in the order in which they are met. ps has, for each place of the queue, the place of the node from which it was met.
--
--   Ready s t qs ps            what a search is given: two nodes, and two lists of 128 places
--   Leads qs ps i p            the parents lead from place i up to place 0, and p has the nodes on the way, from the one after place 0 to that of place i
--   Path steps s t qs ps e     they lead from place e to the source along the path that a round takes
--   Met st N s m h y Q P       m nodes were met in breadth, when the neighbours of the places before h were scanned, and of place h those below y;
--                              Q and P are the places' nodes and their parents' places, st tests steps among N nodes
--   Listed                     the two lists, place by place: so many nodes met, and all behind them as before
--   Sought steps s t qs₀ ps₀ qs ps e
--                              the search's result e: 0 where no path is left, else the place of the sink; qs₀ and ps₀ are the lists before
use Rattle.std.specs.Prelude.{◌≡◌, ◌⊎◌, ◌≢◌, Bool, List, [], ◌∷◌, ◌++◌, ℕ, suc, ◌<◌, ◌≤◌, T, length}
use Rattle.network.specs.Rooms.{step}
use Rattle.network.specs.Paths.{Taken}
use Rattle.network.specs.Rounds.{Stuck}
use Rattle.search.specs.Masks.{at, masked}

pub record Ready (s t : ℕ) (qs ps : List ℕ) : Type 0 where
  pub source : s < 128
  pub sink : t < 128
  pub apart : s ≢ t
  pub queue : length qs ≡ 128
  pub parent : length ps ≡ 128

-- ---- the path

pub data Leads (qs ps : List ℕ) : ℕ → List ℕ → Type 0 where
  source : Leads qs ps 0 []
  onward : {i : ℕ} {p : List ℕ} → 0 < i → at ps i < i → Leads qs ps (at ps i) p → Leads qs ps i (p ++ (at qs i ∷ []))

pub record Path (steps : List ℕ) (s t : ℕ) (qs ps : List ℕ) (e : ℕ) : Type 0 where
  pub start : at qs 0 ≡ s
  pub nodes : List ℕ
  pub leads : Leads qs ps e nodes
  pub taken : Taken (masked steps) 128 s t nodes

-- ---- the two lists

pub record Met (st : ℕ → ℕ → Bool) (N s m h y : ℕ) (Q P : ℕ → ℕ) : Type 0 where
  pub start : Q 0 ≡ s
  pub inside : (i : ℕ) → i < m → Q i < N
  pub distinct : (i j : ℕ) → i < j → j < m → Q i ≢ Q j
  -- each is met from an earlier one, by a step
  pub parent : (i : ℕ) → 0 < i → i < m → P i < i
  pub along : (i : ℕ) → 0 < i → i < m → T (st (Q (P i)) (Q i))
  -- in the order of the parents' places, and from one parent in the order of the node numbers
  pub order : (i j : ℕ) → 0 < i → i < j → j < m → (P i < P j) ⊎ ((P i ≡ P j) × (Q i < Q j))
  -- by what was scanned, and all of it
  pub late : (i : ℕ) → 0 < i → i < m → (P i < h) ⊎ ((P i ≡ h) × (Q i ≤ y))
  pub complete : (j x : ℕ) → j < m → (j < h) ⊎ ((j ≡ h) × (x < y)) → x < N → T (st (Q j) x) → (k : ℕ) × (k < m) × (Q k ≡ x) × ((k ≡ 0) ⊎ (P k ≤ j))

pub record Listed (steps : List ℕ) (s t : ℕ) (qs₀ ps₀ qs ps : List ℕ) (e : ℕ) : Type 0 where
  pub met : ℕ
  pub head : ℕ
  pub next : ℕ
  pub places : Met (step (masked steps)) 128 s met head next (at qs) (at ps)
  pub some : 0 < met
  -- all places are scanned, or the sink is the last that was met: "the search ends at once when T's in-node is met"
  pub ended : ((e ≡ 0) × (head ≡ met)) ⊎ ((0 < e) × (suc e ≡ met) × (at ps e ≡ head) × (at qs e ≡ t) × (next ≡ t))
  pub before : (i : ℕ) → i < met → i ≢ e → at qs i ≢ t
  pub queue_rest : (i : ℕ) → met ≤ i → at qs i ≡ at qs₀ i
  pub parent_rest : (i : ℕ) → met ≤ i → at ps i ≡ at ps₀ i
  pub parent_first : at ps 0 ≡ at ps₀ 0

-- ---- the whole

pub record Sought (steps : List ℕ) (s t : ℕ) (qs₀ ps₀ qs ps : List ℕ) (e : ℕ) : Type 0 where
  pub queue : length qs ≡ 128
  pub parent : length ps ≡ 128
  pub place : e < 128
  pub none : e ≡ 0 → Stuck 128 s t (masked steps)
  pub found : e ≢ 0 → Path steps s t qs ps e
  pub lists : Listed steps s t qs₀ ps₀ qs ps e
