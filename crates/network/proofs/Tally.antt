-- The bound on rounds, 2n(m + n) with n the jobs and m the waits of the whole snapshot, and the theorem on the count in full
-- (document 01: "The count in the result is the number of rounds made by this rule").
-- Over any arcs between jobs that are waits, any job capacities and any capacity of waits.
-- Assumes nothing.
--
--   arcs_tally         n for each arc with a capacity is at most n(m + n)
--   potential_start    the potential of the capacities is at most 2n(m + n)
--   net_bound          no more rounds can be made
--   net_counted        from any such network there is one number of rounds, at most 2n(m + n), after which no path is left
--   capacity_counted   and so from the document's network
use mathlib.Core.Path.{◌≡◌, ◌∙◌}
use mathlib.Core.Logic.{◌⊎◌, inl, inr}
use mathlib.Core.Bool.{Bool, true, false}
use Prim.Native.Nat.{ℕ, suc, ◌+◌, ◌*◌, ◌≤◌, ◌<◌}
use native.Mathlib.Decide.{dec_lt}
use native.Mathlib.Omega.{arith}
use lib.Dec.{T, ltb, lt→ltb, ltb→lt}
use Rattle.sums.specs.Tests.{both}
use Rattle.sums.specs.Sum.{sum, gate}
use Rattle.sums.proofs.TestLaws.{both_left, tested}
use Rattle.sums.proofs.SumLaws.{gate_on, gate_off, gate_le, sum_mono, sum_add, sum_const, sum_scale, sum_swap, sum_single, sum_pairs}
use Rattle.sums.proofs.DoubleSums.{dsum, dsum_mono, dsum_add}
use Rattle.walks.proofs.Distance.{dist}
use Rattle.network.specs.Rooms.{Room, step}
use Rattle.network.specs.Arcs.{inn, out, within, total, job_capacity, net, capacity, wait_count}
use Rattle.network.specs.Rounds.{Rounds}
use Rattle.network.proofs.Bound.{worth, share, potential, rounds_bound}
use Rattle.network.proofs.Counted.{Counted, rounds_counted}
use Rattle.network.proofs.ArcLaws.{net_in, net_wait, net_out}

gate_scale : (b : Bool) (k : ℕ) → gate b k ≡ k * gate b 1
gate_scale true k = omega arith
gate_scale false k = omega arith

dsum_flip : (n : ℕ) (f : ℕ → ℕ → ℕ) → dsum n (λ i j. f j i) ≡ dsum n f
unfolding dsum
dsum_flip n f = sum_swap n n (λ i j. f j i)

worth_le : (n x da db : ℕ) → worth (2 * n) x da db ≤ n
unfolding worth
worth_le n x da db = omega arith

-- a step counts once where it has a capacity, and once where the step back has one
either_way : (x y z n : ℕ) → z ≤ n → gate (ltb 0 (x + y)) z ≤ gate (ltb 0 x) n + gate (ltb 0 y) n
either_way x y z n h = go (dec_lt 0 x) (dec_lt 0 y)
  where
    go : Dec (0 < x) → Dec (0 < y) → gate (ltb 0 (x + y)) z ≤ gate (ltb 0 x) n + gate (ltb 0 y) n
    go (yes p) q = omega (arith, gate_le (ltb 0 (x + y)) z, gate_on (ltb 0 x) n (lt→ltb 0 x p))
    go (no p) (yes q) = omega (arith, gate_le (ltb 0 (x + y)) z, gate_on (ltb 0 y) n (lt→ltb 0 y q))
    go (no p) (no q) = omega (arith, gate_off (ltb 0 (x + y)) z (λ t. let l = ltb→lt 0 (x + y) t in omega arith))

no_arc : (x n : ℕ) → x ≡ 0 → gate (ltb 0 x) n ≡ 0
no_arc x n e = gate_off (ltb 0 x) n (λ t. let l = ltb→lt 0 x t in omega arith)

module _ (w arc : ℕ → ℕ → Bool) (job : ℕ → ℕ) (wide n : ℕ) (wait : (u v : ℕ) → T (arc u v) → T (w u v)) where
  c : Room
  c = net arc job wide

  -- n for each arc
  arcs : ℕ → ℕ → ℕ
  arcs a b = gate (ltb 0 (c a b)) n

  ins : (u : ℕ) → u < n → sum (2 * n) (λ b. arcs (inn u) b) ≤ n
  unfolding arcs c
  ins u l = omega (
    arith,
    sum_single (2 * n) (λ b. arcs (inn u) b) (out u) (omega arith) (λ b lb ne. no_arc (c (inn u) b) n (net_in arc job wide u b ne)),
    gate_le (ltb 0 (c (inn u) (out u))) n,
  )

  outs : (u : ℕ) → u < n → sum (2 * n) (λ b. arcs (out u) b) ≤ n * sum n (λ v. gate (w u v) 1)
  unfolding arcs c
  outs u l = omega (
    arith,
    sum_pairs n (λ b. arcs (out u) b),
    sum_mono n (λ v. arcs (out u) (inn v) + arcs (out u) (out v)) (λ v. n * gate (w u v) 1)
        (λ v lv. omega (arith, to_in v (tested (arc u v)), no_arc (c (out u) (out v)) n (net_out arc job wide u v))),
    sum_scale n n (λ v. gate (w u v) 1),
  )
    where
      to_in : (v : ℕ) → T (arc u v) ⊎ (T (arc u v) → ⊥) → arcs (out u) (inn v) ≤ n * gate (w u v) 1
      to_in v (inl t) = omega (arith, gate_on (w u v) n (wait u v t), gate_scale (w u v) n, gate_le (ltb 0 (c (out u) (inn v))) n)
      to_in v (inr t) = omega (arith, no_arc (c (out u) (inn v)) n (net_wait arc job wide u v ∙ gate_off (arc u v) wide t))

  arcs_tally : dsum (2 * n) arcs ≤ n * (wait_count w n + n)
  unfolding dsum wait_count
  arcs_tally = omega (
    arith,
    sum_pairs n (λ a. sum (2 * n) (λ b. arcs a b)),
    sum_mono n (λ u. sum (2 * n) (λ b. arcs (inn u) b) + sum (2 * n) (λ b. arcs (out u) b)) (λ u. n + n * sum n (λ v. gate (w u v) 1)) (λ u l. omega (arith, ins u l, outs u l)),
    sum_add n (λ u. n) (λ u. n * sum n (λ v. gate (w u v) 1)),
    sum_const n n,
    sum_scale n n (λ u. sum n (λ v. gate (w u v) 1)),
  )

  pub potential_start : (t : ℕ) → potential (2 * n) t (net arc job wide) ≤ 2 * n * (wait_count w n + n)
  unfolding potential share arcs c
  potential_start t = omega (
    arith,
    dsum_mono (2 * n) (share (2 * n) (dist (step c) (2 * n) t) c) (λ a b. arcs a b + arcs b a)
        (λ a b la lb. either_way (c a b) (c b a) (worth (2 * n) (c a b) (dist (step c) (2 * n) t a) (dist (step c) (2 * n) t b)) n (worth_le n (c a b) _ _)),
    dsum_add (2 * n) arcs (λ a b. arcs b a),
    dsum_flip (2 * n) arcs,
    arcs_tally,
  )

  pub net_bound : (s t k : ℕ) (r : Room) → s < 2 * n → Rounds (2 * n) s t (net arc job wide) k r → k ≤ 2 * n * (wait_count w n + n)
  net_bound s t k r l x = omega (arith, rounds_bound (2 * n) s t (net arc job wide) k r l x, potential_start t)

  pub net_counted : (τ : ℕ) → τ < n → (K : ℕ) × Counted (2 * n) (out τ) (inn τ) (net arc job wide) K × (K ≤ 2 * n * (wait_count w n + n))
  net_counted τ l =
      let z = rounds_counted (2 * n) (out τ) (inn τ) (net arc job wide) (omega arith) (λ e. omega arith) in
      (z.0, z.1, net_bound (out τ) (inn τ) z.0 z.1.room (omega arith) z.1.made)

pub capacity_counted : (w : ℕ → ℕ → Bool) (x : ℕ → Bool) (n τ : ℕ) (cost : ℕ → ℕ) → τ < n
    → (K : ℕ) × Counted (2 * n) (out τ) (inn τ) (capacity w x n τ cost) K × (K ≤ 2 * n * (wait_count w n + n))
unfolding capacity within
capacity_counted w x n τ cost l =
    net_counted w (within w x) (job_capacity x τ cost) (suc (total n x cost)) n (λ u v t. both_left (w u v) (both (x u) (x v)) t) τ l
