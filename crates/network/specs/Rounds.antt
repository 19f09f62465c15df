-- The sequence of rounds (document 01, "The network and its rounds"), among N nodes, from the source s to the sink t.
--
--   Round N s t r r'       one round leads from the rooms r to the rooms r'
--   Rounds N s t c k r     k rounds lead from the capacities c to the rooms r
--   Stuck N s t r          "no path is left"
use Rattle.std.specs.Prelude.{◌≡◌, List, ℕ, suc, ◌<◌}
use Rattle.walks.specs.Walk.{Walk}
use Rattle.network.specs.Rooms.{Room, step, push}
use Rattle.network.specs.Paths.{Taken, Most}

pub record Round (N s t : ℕ) (r r' : Room) : Type 0 where
  pub path : List ℕ
  pub amount : ℕ
  pub taken : Taken r N s t path
  pub most : Most r s path amount
  pub after : (a b : ℕ) → a < N → b < N → r' a b ≡ push r amount s path a b

pub data Rounds (N s t : ℕ) (c : Room) : ℕ → Room → Type 0 where
  none : {r : Room} → ((a b : ℕ) → a < N → b < N → r a b ≡ c a b) → Rounds N s t c 0 r
  more : {k : ℕ} {r r' : Room} → Rounds N s t c k r → Round N s t r r' → Rounds N s t c (suc k) r'

abbrev pub Stuck : ℕ → ℕ → ℕ → Room → Type 0
Stuck N s t r = (p : List ℕ) → Walk (step r) N s t p → ⊥
