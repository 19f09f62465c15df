-- When a step may be taken: "A step may follow an arc with capacity left, or go back along an arc with flow above zero."
-- Assumes nothing.
--
--   flow_along c r a b    the flow on the arc from node a to node b: its capacity less the capacity left
--   Follows c r a b      the step from a to b follows an arc with capacity left
--   Returns c r a b      it goes back along an arc with flow above zero
--   one_way              where an arc runs, none runs back
--   step_exactly         after any rounds a step may be taken exactly when it does one of the two
use mathlib.Core.Path.{◌≡◌}
use mathlib.Core.Logic.{◌⊎◌, inl, inr}
use mathlib.Core.Bool.{Bool}
use Prim.Native.Nat.{ℕ, suc, ◌+◌, ◌*◌, ◌-◌, ◌<◌}
use native.Mathlib.Omega.{arith}
use native.Mathlib.Decide.{ℕ_discrete}
use lib.Dec.{T, ltb→lt, lt→ltb}
use Rattle.sums.specs.Tests.{both}
use Rattle.sums.proofs.SumLaws.{gate_off}
use Rattle.sums.proofs.TestLaws.{both_left}
use Rattle.network.specs.Rooms.{Room, step}
use Rattle.network.specs.Rounds.{Rounds}
use Rattle.network.specs.Arcs.{inn, out, within, total, job_capacity, net, capacity}
use Rattle.network.proofs.ArcLaws.{node_cases, net_in, net_wait, net_out}
use Rattle.network.proofs.RoundLaws.{rounds_pair}

abbrev pub flow_along : Room → Room → ℕ → ℕ → ℕ
flow_along c r a b = c a b - r a b

pub record Follows (c r : Room) (a b : ℕ) : Type 0 where
  pub arc : 0 < c a b
  pub left : flow_along c r a b < c a b

pub record Returns (c r : Room) (a b : ℕ) : Type 0 where
  pub arc : 0 < c b a
  pub flow : 0 < flow_along c r b a

module _ (arc : ℕ → ℕ → Bool) (job : ℕ → ℕ) (wide n : ℕ) (apart : (u : ℕ) → u < n → T (arc u u) → ⊥) where
  in_out : (u y : ℕ) → u < n → (net arc job wide (inn u) (out y) ≡ 0) ⊎ (net arc job wide (out y) (inn u) ≡ 0)
  in_out u y l = go (ℕ_discrete y u)
    where
      go : Dec (y ≡ u) → (net arc job wide (inn u) (out y) ≡ 0) ⊎ (net arc job wide (out y) (inn u) ≡ 0)
      go (yes e) = inr (rw e (omega (arith, net_wait arc job wide u u, gate_off (arc u u) wide (apart u l))))
      go (no e) = inl (net_in arc job wide u (out y) (λ q. e (omega arith)))

  pub one_way : (a b : ℕ) → a < 2 * n → b < 2 * n → (net arc job wide a b ≡ 0) ⊎ (net arc job wide b a ≡ 0)
  one_way a b la lb = let x = node_cases n a la in let y = node_cases n b lb in cases x.0 y.0 x.1 y.1 x.2 y.2
    where
      swap : {P Q : Type 0} → P ⊎ Q → Q ⊎ P
      swap (inl p) = inr p
      swap (inr q) = inl q

      cases : (u y : ℕ) → u < n → y < n → (a ≡ inn u) ⊎ (a ≡ out u) → (b ≡ inn y) ⊎ (b ≡ out y)
          → (net arc job wide a b ≡ 0) ⊎ (net arc job wide b a ≡ 0)
      cases u y lu ly (inl e) (inl f) = rw (e, f) (inl (net_in arc job wide u (inn y) (λ q. omega arith)))
      cases u y lu ly (inl e) (inr f) = rw (e, f) (in_out u y lu)
      cases u y lu ly (inr e) (inl f) = rw (e, f) (swap (in_out y u ly))
      cases u y lu ly (inr e) (inr f) = rw (e, f) (inl (net_out arc job wide u y))

-- ---- the document's network

module _ (w : ℕ → ℕ → Bool) (x : ℕ → Bool) (n τ : ℕ) (cost : ℕ → ℕ) (lτ : τ < n) (apart : (u : ℕ) → u < n → T (w u u) → ⊥) (k : ℕ) (r : Room)
    (made : Rounds (2 * n) (out τ) (inn τ) (capacity w x n τ cost) k r) where
  one : (a b : ℕ) → a < 2 * n → b < 2 * n → (capacity w x n τ cost a b ≡ 0) ⊎ (capacity w x n τ cost b a ≡ 0)
  unfolding capacity within
  one = one_way (within w x) (job_capacity x τ cost) (suc (total n x cost)) n (λ u l t. apart u l (both_left (w u u) (both (x u) (x u)) t))

  pub step_exactly : (a b : ℕ) → a < 2 * n → b < 2 * n
      → (T (step r a b) → Follows (capacity w x n τ cost) r a b ⊎ Returns (capacity w x n τ cost) r a b)
      × (Follows (capacity w x n τ cost) r a b ⊎ Returns (capacity w x n τ cost) r a b → T (step r a b))
  step_exactly a b la lb = (λ t. there (ltb→lt 0 (r a b) t) (one a b la lb), λ h. lt→ltb 0 (r a b) (back h (one a b la lb)))
    where
      pair : r a b + r b a ≡ capacity w x n τ cost a b + capacity w x n τ cost b a
      pair = rounds_pair (2 * n) (out τ) (inn τ) (capacity w x n τ cost) k r (omega arith) made a b la lb

      there : 0 < r a b → (capacity w x n τ cost a b ≡ 0) ⊎ (capacity w x n τ cost b a ≡ 0)
          → Follows (capacity w x n τ cost) r a b ⊎ Returns (capacity w x n τ cost) r a b
      there l (inl e) = inr (record { arc = omega (arith, pair); flow = omega (arith, pair) })
      there l (inr e) = inl (record { arc = omega (arith, pair); left = omega (arith, pair) })

      back : Follows (capacity w x n τ cost) r a b ⊎ Returns (capacity w x n τ cost) r a b
          → (capacity w x n τ cost a b ≡ 0) ⊎ (capacity w x n τ cost b a ≡ 0) → 0 < r a b
      back (inl f) o = let l = f.left in omega arith
      back (inr g) (inl e) = omega (arith, pair, g.flow)
      back (inr g) (inr e) = let l = g.arc in omega arith
