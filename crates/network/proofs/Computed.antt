-- The rounds and the set computed, for snapshots worked by hand (document 01, "Snapshots worked by hand"): what antt computes, and that it is what the definitions say.
-- Assumes nothing.
--
--   ringed w n τ            whether a ring passes through T; ringed_right: it says so
--   narrow r a b p          the least room on the path a → b → .. along p
--   amount_on r a p          the largest amount that every step of the path p from a allows
--   next_room N s t r        the rooms after one round; next_round
--   run N s t f k r         f rounds more from r, fewer where no path is left: how many were made, k counted before, and the rooms then
--   Ran N s t c a z         z is a number of rounds from c within the allowance a and the rooms then, with no path left or the allowance used up; run_right
--   unreached_stuck         where the test of reaching fails, no path is left
--   run_best                where no path is left, the jobs that cross into the sink's side are the set that the verdict takes
use mathlib.Core.Path.{◌≡◌, refl, sym, subst}
use mathlib.Core.Logic.{◌⊎◌, inl, inr, ◌≢◌}
use mathlib.Core.Bool.{Bool, true, false}
use mathlib.Core.List.{List, [], ◌∷◌}
use Prim.Native.Nat.{ℕ, zero, suc, ◌+◌, ◌*◌, ◌≤◌, ◌<◌, min, zero-le, suc-le-suc}
use native.Mathlib.Nat.{not-suc-le-zero}
use native.Mathlib.Omega.{arith}
use lib.Dec.{T, ltb→lt}
use Rattle.sums.specs.Tests.{both, any}
use Rattle.sums.proofs.TestLaws.{both_intro, both_left, both_right, any_intro, any_elim}
use Rattle.walks.proofs.Distance.{dist}
use Rattle.walks.proofs.ReachLaws.{reach, reach_walk, walk_reach}
use Rattle.graph.specs.Rings.{Ring, RingThrough, some, none}
use Rattle.network.specs.Rooms.{Room, step, push}
use Rattle.network.specs.Paths.{Taken, Most}
use Rattle.network.specs.Rounds.{Round, Rounds, more, Stuck}
use Rattle.network.specs.Arcs.{inn, out, capacity}
use Rattle.network.specs.Sets.{Best}
use Rattle.network.proofs.PathLaws.{route, route_taken, most_one, most_more}
use Rattle.network.proofs.SetLaws.{in_x, inx_exact}
use Rattle.network.proofs.BestLaws.{sink_set, sink_exact, crossing_best}

-- ---- a ring through T

unfoldable pub ringed : (ℕ → ℕ → Bool) → ℕ → ℕ → Bool
unfolding any reach
ringed w n τ = any n (λ v. both (w τ v) (reach w n τ v))

pub ringed_right : (w : ℕ → ℕ → Bool) (n τ : ℕ) → RingThrough w n τ (ringed w n τ)
unfolding ringed
ringed_right w n τ = go (any n (λ v. both (w τ v) (reach w n τ v))) refl
  where
    found : T (any n (λ v. both (w τ v) (reach w n τ v))) → (p : List ℕ) × Ring w n τ p
    found t =
        let k = any_elim n (λ v. both (w τ v) (reach w n τ v)) t in
        let q = reach_walk w n τ k.0 (both_right (w τ k.0) (reach w n τ k.0) k.2) in
        (k.0 ∷ q.0, (suc-le-suc zero-le, (k.1, both_left (w τ k.0) (reach w n τ k.0) k.2, q.1)))

    missed : (T (any n (λ v. both (w τ v) (reach w n τ v))) → ⊥) → (p : List ℕ) → Ring w n τ p → ⊥
    missed f [] k = not-suc-le-zero k.0
    missed f (v ∷ p) k = f (any_intro n (λ z. both (w τ z) (reach w n τ z)) v k.1.0
        (both_intro (w τ v) (reach w n τ v) k.1.1 (walk_reach w n τ v p k.1.0 k.1.2)))

    go : (b : Bool) → any n (λ v. both (w τ v) (reach w n τ v)) ≡ b → RingThrough w n τ b
    go true e = let k = found (subst T (sym e) tt) in some k.0 k.1
    go false e = none (missed (λ t. subst T e t))

-- ---- one round

unfoldable pub narrow : Room → ℕ → ℕ → List ℕ → ℕ
narrow r a b [] = r a b
narrow r a b (c ∷ p) = min (r a b) (narrow r b c p)

-- a path with no step is never taken
unfoldable pub amount_on : Room → ℕ → List ℕ → ℕ
unfolding narrow
amount_on r a [] = 0
amount_on r a (b ∷ p) = narrow r a b p

amount_most : (r : Room) (a b : ℕ) (p : List ℕ) → Most r a (b ∷ p) (narrow r a b p)
unfolding narrow
amount_most r a b [] = most_one r a b
amount_most r a b (c ∷ p) = most_more r a b (c ∷ p) (narrow r b c p) (amount_most r b c p)

unfoldable pub next_room : ℕ → ℕ → ℕ → Room → Room
unfolding route amount_on push dist
next_room N s t r =
    let p = route r N t (dist (step r) N t s) s in
    push r (amount_on r s p) s p

pub next_round : (N s t : ℕ) (r : Room) → s < N → s ≢ t → dist (step r) N t s < N → Round N s t r (next_room N s t r)
unfolding next_room
next_round N s t r l ne h = go (route r N t (dist (step r) N t s) s) (route_taken r N t s l h)
  where
    go : (p : List ℕ) → Taken r N s t p → Round N s t r (push r (amount_on r s p) s p)
    go [] k = absurd (ne k.walk)
    go (b ∷ p) k = record { path = b ∷ p; amount = narrow r s b p; taken = k; most = amount_most r s b p; after = λ x y lx ly. refl }

-- ---- rounds against an allowance

unfoldable pub run : ℕ → ℕ → ℕ → ℕ → ℕ → Room → ℕ × Room
unfolding next_room reach
run N s t zero k r = (k, r)
run N s t (suc f) k r = elim (reach (step r) N t s) [ true ↦ run N s t f (suc k) (next_room N s t r) | false ↦ (k, r) ]

pub record Ran (N s t : ℕ) (c : Room) (allowance : ℕ) (z : ℕ × Room) : Type 0 where
  pub rounds : Rounds N s t c z.0 z.1
  pub limit : z.0 ≤ allowance
  pub ended : Stuck N s t z.1 ⊎ (z.0 ≡ allowance)

pub unreached_stuck : (N s t : ℕ) (r : Room) → s < N → (T (reach (step r) N t s) → ⊥) → Stuck N s t r
unreached_stuck N s t r l h p w = h (walk_reach (step r) N t s p l w)

module _ (N s t : ℕ) (c : Room) (l : s < N) (ne : s ≢ t) where
  run_from : (a f k : ℕ) (r : Room) → a ≡ k + f → Rounds N s t c k r → Ran N s t c a (run N s t f k r)
  unfolding run reach
  run_from a zero k r e x = record { rounds = x; limit = omega arith; ended = inr (omega arith) }
  run_from a (suc f) k r e x = go (reach (step r) N t s) refl (λ y. run_from a f (suc k) (next_room N s t r) (omega arith) y)
    where
      go : (b : Bool) → reach (step r) N t s ≡ b → (Rounds N s t c (suc k) (next_room N s t r) → Ran N s t c a (run N s t f (suc k) (next_room N s t r)))
          → Ran N s t c a (elim b [ true ↦ run N s t f (suc k) (next_room N s t r) | false ↦ (k, r) ])
      go true q rec = rec (more x (next_round N s t r l ne (ltb→lt (dist (step r) N t s) N (subst T (sym q) tt))))
      go false q rec = record { rounds = x; limit = omega arith; ended = inl (unreached_stuck N s t r l (λ h. subst T q h)) }

  pub run_right : (a : ℕ) → Ran N s t c a (run N s t a 0 c)
  run_right a = run_from a a 0 c (omega arith) (Rounds.none (λ u v lu lv. refl))

pub run_best : (w : ℕ → ℕ → Bool) (n τ : ℕ) (cost : ℕ → ℕ) → τ < n → ((u : ℕ) → u < n → T (w u u) → ⊥)
    → (k : ℕ) (r : Room) → Rounds (2 * n) (out τ) (inn τ) (capacity w (in_x w n τ) n τ cost) k r → Stuck (2 * n) (out τ) (inn τ) r
    → Best w n τ cost (sink_set (in_x w n τ) n τ r)
run_best w n τ cost l apart k r made stuck =
    crossing_best w n τ (in_x w n τ) (inx_exact w n τ l) l apart cost k r made stuck (sink_set (in_x w n τ) n τ r) (sink_exact (in_x w n τ) n τ r)
