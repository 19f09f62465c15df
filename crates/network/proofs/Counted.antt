-- The count of rounds: from any capacities there is one number of rounds after which no path is left, and every smaller number is made on the way
-- (document 01: "Rounds go on until no path is left", "The count in the result is the number of rounds made by this rule").
-- Assumes nothing.
--
--   Counted N s t c K     K is that number
--   stuck_counted         rounds after which no path is left have that number
--   rounds_counted        there is one
--   counted_unique        there is only one
use mathlib.Core.Path.{◌≡◌, refl, subst}
use mathlib.Core.Logic.{◌⊎◌, inl, inr, ◌≢◌}
use Prim.Native.Nat.{ℕ, zero, suc, ◌≤◌, ◌<◌}
use native.Mathlib.Nat.{le_refl}
use native.Mathlib.Omega.{arith}
use Rattle.walks.specs.Walk.{Reaches}
use Rattle.network.specs.Rooms.{Room, step}
use Rattle.network.specs.Rounds.{Rounds, none, more, Stuck}
use Rattle.network.proofs.SameRooms.{Same, reaches_same}
use Rattle.network.proofs.RoundLaws.{left_or_stuck, round_exists, rounds_unique, rounds_before, rounds_upto, stuck_last, count_unique}
use Rattle.network.proofs.Bound.{potential, potential_falls, round_change}

pub record Counted (N s t : ℕ) (c : Room) (K : ℕ) : Type 0 where
  -- K rounds lead to rooms with no path left
  pub room : Room
  pub made : Rounds N s t c K room
  pub ended : Stuck N s t room
  -- no other number does, and there are no other such rooms
  pub only : (k : ℕ) (r : Room) → Rounds N s t c k r → Stuck N s t r → (k ≡ K) × Same N r room
  -- no more than K rounds are made
  pub most : (k : ℕ) (r : Room) → Rounds N s t c k r → k ≤ K
  -- up to K, there are the rooms after k rounds, and they are one
  pub upto : (k : ℕ) → k ≤ K → (r : Room) × Rounds N s t c k r × ((q : Room) → Rounds N s t c k q → Same N q r)
  -- and before K a path is left
  pub before : (k : ℕ) (r : Room) → Rounds N s t c k r → k < K → Reaches (step r) N s t

-- as long as a path is left a round can be made, and each lowers the potential
finish : (N s t : ℕ) (c : Room) → s < N → s ≢ t → (f k : ℕ) (r : Room) → potential N t r ≤ f → Rounds N s t c k r
    → (K : ℕ) × (q : Room) × Rounds N s t c K q × Stuck N s t q
finish N s t c l ne zero k r h x = go (left_or_stuck N s t r l)
  where
    go : Reaches (step r) N s t ⊎ Stuck N s t r → (K : ℕ) × (q : Room) × Rounds N s t c K q × Stuck N s t q
    go (inr z) = (k, r, x, z)
    go (inl z) = let w = round_exists N s t r l ne z in absurd (omega (arith, potential_falls N t r w.0 (round_change N s t r w.0 l w.1)))
finish N s t c l ne (suc f) k r h x = go (left_or_stuck N s t r l) (λ q z y. finish N s t c l ne f (suc k) q z y)
  where
    go : Reaches (step r) N s t ⊎ Stuck N s t r → ((q : Room) → potential N t q ≤ f → Rounds N s t c (suc k) q → (K : ℕ) × (q : Room) × Rounds N s t c K q × Stuck N s t q)
        → (K : ℕ) × (q : Room) × Rounds N s t c K q × Stuck N s t q
    go (inr z) rec = (k, r, x, z)
    go (inl z) rec =
        let w = round_exists N s t r l ne z in
        rec w.0 (omega (arith, potential_falls N t r w.0 (round_change N s t r w.0 l w.1))) (more x w.1)

pub stuck_counted : (N s t : ℕ) (c : Room) (K : ℕ) (r : Room) → s < N → Rounds N s t c K r → Stuck N s t r → Counted N s t c K
stuck_counted N s t c K r l x e = record {
  room = r;
  made = x;
  ended = e;
  only = λ k q y f. let j = count_unique N s t c k K q r l y f x e in (j, rounds_unique N s t c K q r l (subst (λ (z : ℕ). Rounds N s t c z q) j y) x);
  most = λ k q y. stuck_last N s t c K k r q l x e y;
  upto = λ k h. let w = rounds_upto N s t c K r x k h in (w.0, w.1, λ q y. rounds_unique N s t c k q w.0 l y w.1);
  before = λ k q y h. let w = rounds_before N s t c K r x k h in reaches_same N w.0 q (rounds_unique N s t c k w.0 q l w.1 y) s t l w.2;
}

pub rounds_counted : (N s t : ℕ) (c : Room) → s < N → s ≢ t → (K : ℕ) × Counted N s t c K
rounds_counted N s t c l ne =
    let w = finish N s t c l ne (potential N t c) 0 c (le_refl (potential N t c)) (none (λ a b la lb. refl)) in
    (w.0, stuck_counted N s t c w.0 w.1 l w.2 w.3)

pub counted_unique : (N s t : ℕ) (c : Room) (j k : ℕ) → Counted N s t c j → Counted N s t c k → j ≡ k
counted_unique N s t c j k x y = (y.only j x.room x.made x.ended).0
