-- The capacities of a network on jobs' in- and out-nodes, pair of nodes by pair of nodes, and what a cut holds that no wait crosses
-- (document 01: "Job u has the in-node 2u and the out-node 2u + 1").
-- Over any arcs between jobs, any job capacities and any one capacity of waits.
-- Assumes nothing.
--
--   node_cases            a node is an in-node or an out-node
--   nodes F G a           the set of nodes with the in-nodes of the jobs F and the out-nodes of the jobs G; nodes_in, nodes_out
--   net_job               from u's in-node to u's out-node: the job's capacity
--   net_in                nothing else leaves an in-node
--   net_wait              from u's out-node to v's in-node: the waits' capacity, where there is an arc
--   net_out               nothing leads from an out-node to an out-node
--   net_unused            no room back along a wait
--   crosses R u           job u's arc leads into the set of nodes R
--   cut_jobs              a cut that no wait crosses holds the capacities of the jobs that cross it
--   cut_wait              a cut that a wait crosses holds its capacity
--   job_cost_lem, job_member, job_total    a job's capacity in the document's network is at most its cost, its cost if it is of X, and S
--   job_sink              T has none
use mathlib.Core.Path.{◌≡◌, refl, ap, ◌∙◌, subst}
use mathlib.Core.Logic.{◌⊎◌, inl, inr, ◌≢◌}
use mathlib.Core.Bool.{Bool, true, false, not}
use Prim.Native.Nat.{ℕ, suc, ◌*◌, ◌/◌, ◌%◌, ◌≤◌, ◌<◌, zero-le}
use native.Mathlib.Decide.{ℕ_discrete}
use native.Mathlib.Omega.{arith}
use lib.Dec.{T, eqb, eqb→eq, eqb_refl, not_T, T_not}
use Rattle.sums.specs.Tests.{both}
use Rattle.sums.specs.Sum.{sum, gate}
use Rattle.sums.proofs.TestLaws.{both_intro, both_left, both_right, tested, eqb_on, eqb_off}
use Rattle.sums.proofs.SumLaws.{gate_on, gate_off, gate_le, sum_cong, sum_zero, sum_term, sum_single, sum_pairs}
use Rattle.sums.proofs.DoubleSums.{dsum, dsum_term}
use Rattle.network.specs.Arcs.{inn, out, flow_on, total, job_capacity, net}
use Rattle.network.proofs.CutLaws.{cut}

pub node_cases : (n a : ℕ) → a < 2 * n → (u : ℕ) × (u < n) × ((a ≡ inn u) ⊎ (a ≡ out u))
node_cases n a l = (a / 2, omega arith, go (ℕ_discrete (a % 2) 0))
  where
    go : Dec (a % 2 ≡ 0) → (a ≡ inn (a / 2)) ⊎ (a ≡ out (a / 2))
    go (yes e) = inl (omega arith)
    go (no e) = inr (omega arith)

-- ---- sets of nodes, given by the in-nodes' jobs and the out-nodes' jobs

abbrev choose : Bool → Bool → Bool → Bool
choose true x y = x
choose false x y = y

pub nodes : (ℕ → Bool) → (ℕ → Bool) → ℕ → Bool
nodes F G a = choose (eqb (a % 2) 0) (F (a / 2)) (G (a / 2))

half_in : (u : ℕ) → inn u / 2 ≡ u
half_in u = omega arith

half_out : (u : ℕ) → out u / 2 ≡ u
half_out u = omega arith

pub nodes_in : (F G : ℕ → Bool) (u : ℕ) → nodes F G (inn u) ≡ F u
unfolding nodes
nodes_in F G u = ap (λ (c : Bool). choose c (F (inn u / 2)) (G (inn u / 2))) (eqb_on (inn u % 2) 0 (omega arith)) ∙ ap F (half_in u)

pub nodes_out : (F G : ℕ → Bool) (u : ℕ) → nodes F G (out u) ≡ G u
unfolding nodes
nodes_out F G u = ap (λ (c : Bool). choose c (F (out u / 2)) (G (out u / 2))) (eqb_off (out u % 2) 0 (omega arith)) ∙ ap G (half_out u)

-- the job arc of u leads into R
abbrev pub crosses : (ℕ → Bool) → ℕ → Bool
crosses R u = both (not (R (inn u))) (R (out u))

-- ---- capacities

module _ (arc : ℕ → ℕ → Bool) (job : ℕ → ℕ) (wide : ℕ) where
  -- the tests of the two kinds of arc, as `net` has them
  abbrev wait_arc : ℕ → ℕ → Bool
  wait_arc a b = both (eqb (a % 2) 1) (both (eqb (b % 2) 0) (arc (a / 2) (b / 2)))

  abbrev job_arc : ℕ → ℕ → Bool
  job_arc a b = both (eqb (a % 2) 0) (eqb b (suc a))

  no_wait_from_in : (u b : ℕ) → T (wait_arc (inn u) b) → ⊥
  no_wait_from_in u b t = let e = eqb→eq (inn u % 2) 1 (both_left (eqb (inn u % 2) 1) _ t) in omega arith

  no_job_from_out : (u b : ℕ) → T (job_arc (out u) b) → ⊥
  no_job_from_out u b t = let e = eqb→eq (out u % 2) 0 (both_left (eqb (out u % 2) 0) _ t) in omega arith

  pub net_job : (u : ℕ) → net arc job wide (inn u) (out u) ≡ job u
  unfolding net
  net_job u =
      let z : gate (wait_arc (inn u) (out u)) wide ≡ 0 = gate_off (wait_arc (inn u) (out u)) wide (no_wait_from_in u (out u)) in
      let p : eqb (inn u % 2) 0 ≡ true = eqb_on (inn u % 2) 0 (omega arith) in
      let q : eqb (out u) (suc (inn u)) ≡ true = eqb_on (out u) (suc (inn u)) refl in
      let k : gate (job_arc (inn u) (out u)) (job (inn u / 2)) ≡ job u = cc (p, q, half_in u) in
      omega (arith, z, k)

  pub net_in : (u b : ℕ) → b ≢ out u → net arc job wide (inn u) b ≡ 0
  unfolding net
  net_in u b ne =
      let z = gate_off (wait_arc (inn u) b) wide (no_wait_from_in u b) in
      let y = gate_off (job_arc (inn u) b) (job (inn u / 2)) (λ t. ne (eqb→eq b (suc (inn u)) (both_right (eqb (inn u % 2) 0) (eqb b (suc (inn u))) t))) in
      omega (arith, z, y)

  pub net_wait : (u v : ℕ) → net arc job wide (out u) (inn v) ≡ gate (arc u v) wide
  unfolding net
  net_wait u v =
      let y : gate (job_arc (out u) (inn v)) (job (out u / 2)) ≡ 0 = gate_off (job_arc (out u) (inn v)) (job (out u / 2)) (no_job_from_out u (inn v)) in
      let p : eqb (out u % 2) 1 ≡ true = eqb_on (out u % 2) 1 (omega arith) in
      let q : eqb (inn v % 2) 0 ≡ true = eqb_on (inn v % 2) 0 (omega arith) in
      let k : gate (wait_arc (out u) (inn v)) wide ≡ gate (arc u v) wide = cc (p, q, half_out u, half_in v) in
      omega (arith, y, k)

  pub net_out : (u v : ℕ) → net arc job wide (out u) (out v) ≡ 0
  unfolding net
  net_out u v =
      let y = gate_off (job_arc (out u) (out v)) (job (out u / 2)) (no_job_from_out u (out v)) in
      let z = gate_off (wait_arc (out u) (out v)) wide (λ t.
      let e = eqb→eq (out v % 2) 0 (both_left (eqb (out v % 2) 0) (arc (out u / 2) (out v / 2)) (both_right (eqb (out u % 2) 1) (both (eqb (out v % 2) 0) (arc (out u / 2) (out v / 2))) t)) in
      omega arith) in
      omega (arith, z, y)

  -- before any round nothing flows on a wait: there is no room back along it
  pub net_unused : (u v : ℕ) → (T (arc u u) → ⊥) → flow_on arc (net arc job wide) u v ≡ 0
  net_unused u v apart = go (tested (arc u v))
    where
      go : T (arc u v) ⊎ (T (arc u v) → ⊥) → gate (arc u v) (net arc job wide (inn v) (out u)) ≡ 0
      go (inr t) = gate_off (arc u v) (net arc job wide (inn v) (out u)) t
      go (inl t) =
          gate_on (arc u v) (net arc job wide (inn v) (out u)) t
          ∙ net_in v (out u) (λ e. apart (subst (λ (z : ℕ). T (arc u z)) (let q : v ≡ u = omega arith in q) t))

  -- ---- the capacity of a cut

  pub cut_jobs : (n : ℕ) (R : ℕ → Bool) → ((u v : ℕ) → u < n → v < n → T (arc u v) → T (R (inn v)) → T (R (out u)))
      → cut (2 * n) R (net arc job wide) ≡ sum n (λ u. gate (crosses R u) (job u))
  unfolding cut dsum
  cut_jobs n R h =
      sum_pairs n (λ a. sum (2 * n) (λ b. gate (both (not (R a)) (R b)) (net arc job wide a b)))
      ∙ sum_cong n _ _ (λ u l. omega (arith, ins u l, outs u l))
    where
      none : (c : Bool) (x : ℕ) → x ≡ 0 → gate c x ≡ 0
      none c x e = omega (arith, gate_le c x)

      ins : (u : ℕ) → u < n → sum (2 * n) (λ b. gate (both (not (R (inn u))) (R b)) (net arc job wide (inn u) b)) ≡ gate (crosses R u) (job u)
      ins u l =
          sum_single (2 * n) (λ b. gate (both (not (R (inn u))) (R b)) (net arc job wide (inn u) b)) (out u) (omega arith)
          (λ b lb ne. none (both (not (R (inn u))) (R b)) (net arc job wide (inn u) b) (net_in u b ne))
          ∙ ap (λ (z : ℕ). gate (crosses R u) z) (net_job u)

      outs : (u : ℕ) → u < n → sum (2 * n) (λ b. gate (both (not (R (out u))) (R b)) (net arc job wide (out u) b)) ≡ 0
      outs u l =
          sum_pairs n (λ b. gate (both (not (R (out u))) (R b)) (net arc job wide (out u) b))
          ∙ sum_zero n _ (λ v lv. omega (arith, to_in v lv, none (both (not (R (out u))) (R (out v))) (net arc job wide (out u) (out v)) (net_out u v)))
        where
          to_in : (v : ℕ) → v < n → gate (both (not (R (out u))) (R (inn v))) (net arc job wide (out u) (inn v)) ≡ 0
          to_in v lv = go (tested (arc u v))
            where
              go : T (arc u v) ⊎ (T (arc u v) → ⊥) → gate (both (not (R (out u))) (R (inn v))) (net arc job wide (out u) (inn v)) ≡ 0
              go (inr f) = none (both (not (R (out u))) (R (inn v))) (net arc job wide (out u) (inn v)) (net_wait u v ∙ gate_off (arc u v) wide f)
              go (inl f) = gate_off (both (not (R (out u))) (R (inn v))) (net arc job wide (out u) (inn v)) (λ t.
                  T_not (R (out u)) (both_left (not (R (out u))) (R (inn v)) t) (h u v l lv f (both_right (not (R (out u))) (R (inn v)) t)))

  pub cut_wait : (n : ℕ) (R : ℕ → Bool) (u v : ℕ) → u < n → v < n → T (arc u v) → T (R (inn v)) → (T (R (out u)) → ⊥) → wide ≤ cut (2 * n) R (net arc job wide)
  unfolding cut
  cut_wait n R u v lu lv f h g =
      let on = gate_on (both (not (R (out u))) (R (inn v))) (net arc job wide (out u) (inn v)) (both_intro (not (R (out u))) (R (inn v)) (not_T (R (out u)) g) h) in
      let term : gate (both (not (R (out u))) (R (inn v))) (net arc job wide (out u) (inn v)) ≤ cut (2 * n) R (net arc job wide)
      = dsum_term (2 * n) (λ a b. gate (both (not (R a)) (R b)) (net arc job wide a b)) (out u) (inn v) (omega arith) (omega arith) in
      omega (arith, on, term, net_wait u v, gate_on (arc u v) wide f)

-- ---- the jobs' capacities in the document's network

pub job_cost_lem : (x : ℕ → Bool) (τ : ℕ) (cost : ℕ → ℕ) (u : ℕ) → job_capacity x τ cost u ≤ cost u
unfolding job_capacity
job_cost_lem x τ cost u = gate_le (both (x u) (not (eqb u τ))) (cost u)

pub job_member : (x : ℕ → Bool) (τ : ℕ) (cost : ℕ → ℕ) (u : ℕ) → job_capacity x τ cost u ≤ gate (x u) (cost u)
unfolding job_capacity
job_member x τ cost u = fewer (x u) (not (eqb u τ)) (cost u)
  where
    fewer : (a b : Bool) (y : ℕ) → gate (both a b) y ≤ gate a y
    fewer true b y = gate_le b y
    fewer false b y = zero-le

pub job_total : (n : ℕ) (x : ℕ → Bool) (τ : ℕ) (cost : ℕ → ℕ) (u : ℕ) → u < n → job_capacity x τ cost u ≤ total n x cost
unfolding total
job_total n x τ cost u l = omega (arith, job_member x τ cost u, sum_term n (λ z. gate (x z) (cost z)) u l)

pub job_sink : (x : ℕ → Bool) (τ : ℕ) (cost : ℕ → ℕ) → job_capacity x τ cost τ ≡ 0
unfolding job_capacity
job_sink x τ cost = gate_off (both (x τ) (not (eqb τ τ))) (cost τ) (λ t. T_not (eqb τ τ) (both_right (x τ) (not (eqb τ τ)) t) (eqb_refl τ))
