-- Rings and paths: a ring passes through T exactly when a path is left before any round
-- (document 01: "No ring through T: wait.", "A wait verdict takes no round.").
-- Assumes nothing.
--
--   path_walk        a path at the start leads along arcs from job to job
--   path_ring        so where a path is left at the start, there is a ring through T
--   ring_path        and where there is a ring through T, a path is left at the start, costs being above 0
--   no_ring_stuck    with no ring no path is left
--   no_ring_rounds   and no round is made
use mathlib.Core.Path.{◌≡◌, refl, sym, subst}
use mathlib.Core.Logic.{◌⊎◌, inl, inr, ◌≢◌}
use mathlib.Core.Bool.{Bool, not}
use mathlib.Core.List.{List, [], ◌∷◌}
use Prim.Native.Nat.{ℕ, suc, ◌*◌, ◌<◌, zero-le, suc-le-suc}
use native.Mathlib.Nat.{not-suc-le-zero}
use native.Mathlib.Decide.{ℕ_discrete}
use native.Mathlib.Omega.{arith}
use lib.Dec.{T, eqb, lt→ltb, ltb→lt}
use lib.ListN.{length}
use Rattle.sums.specs.Tests.{both}
use Rattle.sums.specs.Sum.{gate}
use Rattle.sums.proofs.TestLaws.{both_intro, tested, ne_test}
use Rattle.sums.proofs.SumLaws.{gate_on, gate_off}
use Rattle.walks.specs.Walk.{Walk, Reaches}
use Rattle.walks.proofs.ReachLaws.{reaches_here, reaches_step}
use Rattle.graph.specs.Rings.{Ring, InX}
use Rattle.network.specs.Rooms.{Room, step}
use Rattle.network.specs.Rounds.{Rounds, none, Stuck}
use Rattle.network.specs.Arcs.{inn, out, within, total, job_capacity, net, capacity}
use Rattle.network.specs.Sets.{Exactly}
use Rattle.network.proofs.RoundLaws.{stuck_last}
use Rattle.network.proofs.ArcLaws.{node_cases, net_job, net_in, net_wait, net_out}
use Rattle.network.proofs.SetLaws.{x_self, x_next, within_intro, within_wait}

-- ---- from a path to a ring

module _ (arc : ℕ → ℕ → Bool) (job : ℕ → ℕ) (wide n : ℕ) where
  step_out : (u b : ℕ) → b < 2 * n → T (step (net arc job wide) (out u) b) → (v : ℕ) × (v < n) × (b ≡ inn v) × T (arc u v)
  step_out u b l t = let k = node_cases n b l in go k.0 k.1 k.2
    where
      room : 0 < net arc job wide (out u) b
      room = ltb→lt 0 (net arc job wide (out u) b) t

      go : (v : ℕ) → v < n → (b ≡ inn v) ⊎ (b ≡ out v) → (v : ℕ) × (v < n) × (b ≡ inn v) × T (arc u v)
      go v lv (inr e) = let z : net arc job wide (out u) b ≡ 0 = subst (λ (y : ℕ). net arc job wide (out u) y ≡ 0) (sym e) (net_out arc job wide u v) in absurd (omega (arith, room))
      go v lv (inl e) = by (tested (arc u v))
        where
          by : T (arc u v) ⊎ (T (arc u v) → ⊥) → (v : ℕ) × (v < n) × (b ≡ inn v) × T (arc u v)
          by (inl a) = (v, lv, e, a)
          by (inr a) =
              let z : net arc job wide (out u) b ≡ gate (arc u v) wide = subst (λ (y : ℕ). net arc job wide (out u) y ≡ gate (arc u v) wide) (sym e) (net_wait arc job wide u v) in
              absurd (omega (arith, room, gate_off (arc u v) wide a))

  step_in : (v b : ℕ) → T (step (net arc job wide) (inn v) b) → b ≡ out v
  step_in v b t = go (ℕ_discrete b (out v))
    where
      go : Dec (b ≡ out v) → b ≡ out v
      go (yes e) = e
      go (no e) = absurd (omega (arith, ltb→lt 0 (net arc job wide (inn v) b) t, net_in arc job wide v b e))

  pub path_walk : (u τ : ℕ) (p : List ℕ) → Walk (step (net arc job wide)) (2 * n) (out u) (inn τ) p → (q : List ℕ) × (0 < length q) × Walk arc n u τ q
  path_walk u τ [] w = absurd (omega (arith, w))
  path_walk u τ (b ∷ []) w =
      let k = step_out u b w.0 w.1 in
      (k.0 ∷ [], suc-le-suc zero-le, (k.1, k.3, (let e = k.2 in let f = w.2 in omega arith)))
  path_walk u τ (b ∷ d ∷ p) w =
      let k = step_out u b w.0 w.1 in
      let e = step_in k.0 d (subst (λ (z : ℕ). T (step (net arc job wide) z d)) k.2 w.2.1) in
      let m = path_walk k.0 τ p (subst (λ (z : ℕ). Walk (step (net arc job wide)) (2 * n) z (inn τ) p) e w.2.2) in
      (k.0 ∷ m.0, suc-le-suc zero-le, (k.1, k.3, m.2))

module _ (w : ℕ → ℕ → Bool) (x : ℕ → Bool) (n τ : ℕ) (cost : ℕ → ℕ) where
  all_waits : (u : ℕ) (q : List ℕ) → Walk (within w x) n u τ q → Walk w n u τ q
  all_waits u [] k = k
  all_waits u (v ∷ q) k = (k.0, within_wait w x u v k.1, all_waits v q k.2)

  pub path_ring : Reaches (step (capacity w x n τ cost)) (2 * n) (out τ) (inn τ) → (p : List ℕ) × Ring w n τ p
  unfolding capacity
  path_ring k =
      let m = path_walk (within w x) (job_capacity x τ cost) (suc (total n x cost)) n τ τ k.path k.walk in
      (m.0, (m.1, all_waits τ m.0 m.2))

  pub no_ring_stuck : ((p : List ℕ) → Ring w n τ p → ⊥) → Stuck (2 * n) (out τ) (inn τ) (capacity w x n τ cost)
  no_ring_stuck h p k = let m = path_ring (record { path = p; walk = k }) in h m.0 m.1

  pub no_ring_rounds : τ < n → ((p : List ℕ) → Ring w n τ p → ⊥) → (k : ℕ) (r : Room) → Rounds (2 * n) (out τ) (inn τ) (capacity w x n τ cost) k r → k ≡ 0
  no_ring_rounds l h k r made = omega (
    arith,
    stuck_last (2 * n) (out τ) (inn τ) (capacity w x n τ cost) 0 k (capacity w x n τ cost) r (omega arith) (none (λ a b la lb. refl)) (no_ring_stuck h) made,
  )

-- ---- from a ring to a path

module _ (w : ℕ → ℕ → Bool) (x : ℕ → Bool) (n τ : ℕ) (cost : ℕ → ℕ) (exact : Exactly n (InX w n τ) x) (lτ : τ < n) (positive : (u : ℕ) → u < n → 0 < cost u) where
  c : Room
  c = capacity w x n τ cost

  wait_step : (u v : ℕ) → T (within w x u v) → T (step c (out u) (inn v))
  unfolding c capacity
  wait_step u v t = lt→ltb 0 (c (out u) (inn v)) (omega (
    arith,
    net_wait (within w x) (job_capacity x τ cost) (suc (total n x cost)) u v,
    gate_on (within w x u v) (suc (total n x cost)) t,
  ))

  job_step : (u : ℕ) → u < n → T (x u) → u ≢ τ → T (step c (inn u) (out u))
  unfolding c capacity job_capacity
  job_step u l t ne = lt→ltb 0 (c (inn u) (out u)) (omega (
    arith,
    net_job (within w x) (job_capacity x τ cost) (suc (total n x cost)) u,
    gate_on (both (x u) (not (eqb u τ))) (cost u) (both_intro (x u) (not (eqb u τ)) t (ne_test u τ ne)),
    positive u l,
  ))

  -- one wait of the ring: the job it leads to is of X
  next : (u v : ℕ) (p : List ℕ) → u < n → v < n → T (x u) → T (w u v) → Walk w n v τ p → T (x v)
  next u v p lu lv t s k = x_next w n τ x exact u v lu lv t s (record { path = p; walk = k })

  -- on to T's in-node, where the path ends even if the ring goes on
  onward : (u : ℕ) (p : List ℕ) → u < n → T (x u) → Walk w n u τ p → Reaches (step c) (2 * n) (inn u) (inn τ)
  onward u [] l t k = subst (λ (z : ℕ). Reaches (step c) (2 * n) (inn z) (inn τ)) (sym k) (reaches_here (step c) (2 * n) (inn τ))
  onward u (v ∷ p) l t k = go (ℕ_discrete u τ) (onward v p k.0 (next u v p l k.0 t k.1 k.2) k.2)
    where
      go : Dec (u ≡ τ) → Reaches (step c) (2 * n) (inn v) (inn τ) → Reaches (step c) (2 * n) (inn u) (inn τ)
      go (yes e) m = subst (λ (z : ℕ). Reaches (step c) (2 * n) (inn z) (inn τ)) (sym e) (reaches_here (step c) (2 * n) (inn τ))
      go (no e) m =
          let lv : v < n = k.0 in
          reaches_step (step c) (2 * n) (inn u) (out u) (inn τ) (omega arith) (job_step u l t e)
          (reaches_step (step c) (2 * n) (out u) (inn v) (inn τ) (omega arith) (wait_step u v (within_intro w x u v k.1 t (next u v p l k.0 t k.1 k.2))) m)

  pub ring_path : (p : List ℕ) → Ring w n τ p → Reaches (step (capacity w x n τ cost)) (2 * n) (out τ) (inn τ)
  unfolding c
  ring_path [] g = absurd (not-suc-le-zero g.0)
  ring_path (v ∷ p) g =
      let t = x_self w n τ x exact lτ in
      let k = g.1 in
      let m = next τ v p lτ k.0 t k.1 k.2 in
      let lv : v < n = k.0 in
      reaches_step (step c) (2 * n) (out τ) (inn v) (inn τ) (omega arith) (wait_step τ v (within_intro w x τ v k.1 t m)) (onward v p k.0 m k.2)
