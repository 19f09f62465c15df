-- No set that opens every ring through T costs less than what was pushed to T's in-node: weak duality
-- (document 01, "The verdict": "the sets of jobs of X, without T, whose abort opens every ring through T. .. Take the least total cost.").
-- Over any network whose waits are waits of the snapshot and whose jobs' capacities are no larger than their costs.
-- Assumes nothing.
--
--   free w n τ M u        T is reached from u without passing through M, computed
--   free_step             so it is from a job outside M that waits for such a job
--   free_hit              a job of M from which T is so reached is T
--   free_reaches          and then T is reached
--   opens_shut, shut_opens    M opens every ring: T is not so reached from a job that T waits for
--   exits w n τ M u       u waits for a job from which T is so reached, computed; exits_intro, exits_elim
--   side w n τ M a        the nodes from which the sink is reached once M's job arcs are gone; side_in, side_out: in-nodes of free jobs, out-nodes of those with exits
--   side_cross            a job whose arc leads into the side is in M
--   side_cut              the side's capacity is that of the jobs that cross
--   side_terms, side_price    job by job and together, that is at most M's price
--   side_carried          no more is pushed than the side's capacity
--   opens_price           and so no more than M's price
use mathlib.Core.Path.{◌≡◌, refl, sym, subst}
use mathlib.Core.Logic.{◌⊎◌, inl, inr, ◌≢◌}
use mathlib.Core.Bool.{Bool, true, false, not}
use mathlib.Core.List.{List, [], ◌∷◌}
use Prim.Native.Nat.{ℕ, ◌+◌, ◌*◌, ◌≤◌, ◌<◌, zero-le, suc-le-suc}
use native.Mathlib.Nat.{not-suc-le-zero}
use native.Mathlib.Omega.{arith}
use lib.Dec.{T, not_T, T_not}
use Rattle.sums.specs.Tests.{both, any}
use Rattle.sums.specs.Sum.{sum, gate}
use Rattle.sums.proofs.TestLaws.{both_intro, both_left, both_right, any_intro, any_elim, tested}
use Rattle.sums.proofs.SumLaws.{sum_mono}
use Rattle.walks.specs.Walk.{Walk, Reaches}
use Rattle.walks.proofs.ReachLaws.{reach, reach_walk, walk_reach, reach_self, reach_step, reach_in}
use Rattle.graph.specs.Rings.{Ring, InX}
use Rattle.network.specs.Rooms.{Room}
use Rattle.network.specs.Arcs.{inn, out, net}
use Rattle.network.specs.Sets.{Passes, Opens, price, avoid}
use Rattle.network.proofs.CutLaws.{cut, Carried, carried_cut}
use Rattle.network.proofs.ArcLaws.{nodes, nodes_in, nodes_out, crosses, cut_jobs}

module _ (w : ℕ → ℕ → Bool) (n τ : ℕ) (M : ℕ → Bool) where
  abbrev pub free : ℕ → Bool
  free u = reach (avoid w M) n τ u

  avoid_intro : (u v : ℕ) → (T (M u) → ⊥) → T (w u v) → T (avoid w M u v)
  avoid_intro u v h s = both_intro (not (M u)) (w u v) (not_T (M u) h) s

  avoid_off : (u v : ℕ) → T (avoid w M u v) → T (M u) → ⊥
  avoid_off u v h m = T_not (M u) (both_left (not (M u)) (w u v) h) m

  pub free_step : (u v : ℕ) → u < n → (T (M u) → ⊥) → T (w u v) → T (free v) → T (free u)
  free_step u v l h s f = reach_step (avoid w M) n τ u v l (avoid_intro u v h s) f

  pub free_hit : (u : ℕ) → T (free u) → T (M u) → u ≡ τ
  free_hit u f m = let k = reach_walk (avoid w M) n τ u f in by k.0 k.1
    where
      by : (p : List ℕ) → Walk (avoid w M) n u τ p → u ≡ τ
      by [] e = e
      by (v ∷ p) e = absurd (avoid_off u v e.1 m)

  plain : (u : ℕ) (p : List ℕ) → Walk (avoid w M) n u τ p → Walk w n u τ p
  plain u [] k = k
  plain u (v ∷ p) k = (k.0, both_right (not (M u)) (w u v) k.1, plain v p k.2)

  pub free_reaches : (u : ℕ) → T (free u) → Reaches w n u τ
  free_reaches u f = let k = reach_walk (avoid w M) n τ u f in record { path = k.0; walk = plain u k.0 k.1 }

  -- ---- opening by reaching

  passes_end : (u : ℕ) (p : List ℕ) → Walk (avoid w M) n u τ p → Passes M (u ∷ p) → T (M τ)
  passes_end u [] k (inl m) = subst (λ (z : ℕ). T (M z)) k m
  passes_end u [] k (inr m) = absurd m
  passes_end u (v ∷ p) k (inl m) = absurd (avoid_off u v k.1 m)
  passes_end u (v ∷ p) k (inr m) = passes_end v p k.2 m

  pub opens_shut : Opens w n τ M → τ < n → (v : ℕ) → T (w τ v) → T (free v) → ⊥
  opens_shut o l v s f =
      let k = reach_walk (avoid w M) n τ v f in
      let m = passes_end v k.0 k.1 (o.met (v ∷ k.0) (suc-le-suc zero-le, (reach_in (avoid w M) n τ v f, s, plain v k.0 k.1))) in
      (o.inside τ l m).1 refl

  split : (u : ℕ) (p : List ℕ) → Walk w n u τ p → Passes M (u ∷ p) ⊎ Walk (avoid w M) n u τ p
  split u [] k = inr k
  split u (v ∷ p) k = go (tested (M u)) (split v p k.2)
    where
      go : T (M u) ⊎ (T (M u) → ⊥) → Passes M (v ∷ p) ⊎ Walk (avoid w M) n v τ p → Passes M (u ∷ v ∷ p) ⊎ Walk (avoid w M) n u τ (v ∷ p)
      go (inl m) r = inl (inl m)
      go (inr m) (inl r) = inl (inr r)
      go (inr m) (inr r) = inr (k.0, avoid_intro u v m k.1, r)

  pub shut_opens : ((u : ℕ) → u < n → T (M u) → InX w n τ u × (u ≢ τ)) → ((v : ℕ) → v < n → T (w τ v) → T (free v) → ⊥) → Opens w n τ M
  shut_opens i h = record {
    inside = i;
    met = λ p k. go p k;
  }
    where
      go : (p : List ℕ) → Ring w n τ p → Passes M p
      go [] k = absurd (not-suc-le-zero k.0)
      go (v ∷ p) k = by (split v p k.1.2)
        where
          by : Passes M (v ∷ p) ⊎ Walk (avoid w M) n v τ p → Passes M (v ∷ p)
          by (inl r) = r
          by (inr r) = absurd (h v k.1.0 k.1.1 (walk_reach (avoid w M) n τ v p k.1.0 r))

  -- ---- the side of the sink

  abbrev pub exits : ℕ → Bool
  exits u = any n (λ v. both (w u v) (free v))

  abbrev pub side : ℕ → Bool
  side = nodes free exits

  pub side_in : (u : ℕ) → side (inn u) ≡ free u
  side_in u = nodes_in free exits u

  pub side_out : (u : ℕ) → side (out u) ≡ exits u
  side_out u = nodes_out free exits u

  pub exits_intro : (u v : ℕ) → T (w u v) → T (free v) → T (exits u)
  exits_intro u v s f = any_intro n (λ z. both (w u z) (free z)) v (reach_in (avoid w M) n τ v f) (both_intro (w u v) (free v) s f)

  pub exits_elim : (u : ℕ) → T (exits u) → (v : ℕ) × (v < n) × T (w u v) × T (free v)
  exits_elim u h =
      let k = any_elim n (λ z. both (w u z) (free z)) h in
      (k.0, k.1, both_left (w u k.0) (free k.0) k.2, both_right (w u k.0) (free k.0) k.2)

  pub side_cross : (u : ℕ) → u < n → T (crosses side u) → T (M u)
  side_cross u l c = go (tested (M u))
    where
      go : T (M u) ⊎ (T (M u) → ⊥) → T (M u)
      go (inl m) = m
      go (inr m) =
          let k = exits_elim u (subst T (side_out u) (both_right (not (side (inn u))) (side (out u)) c)) in
          let f = free_step u k.0 l m k.2 k.3 in
          absurd (T_not (side (inn u)) (both_left (not (side (inn u))) (side (out u)) c) (subst T (sym (side_in u)) f))

gate_under : (a m : Bool) (y x : ℕ) → (T a → T m) → y ≤ x → gate a y ≤ gate m x
gate_under true true y x h l = l
gate_under true false y x h l = absurd (h tt)
gate_under false m y x h l = zero-le

-- ---- weak duality

module _ (w : ℕ → ℕ → Bool) (n τ : ℕ) (arc : ℕ → ℕ → Bool) (job : ℕ → ℕ) (wide : ℕ) (wait : (u v : ℕ) → T (arc u v) → T (w u v)) where
  pub side_cut : (M : ℕ → Bool) → cut (2 * n) (side w n τ M) (net arc job wide) ≡ sum n (λ u. gate (crosses (side w n τ M) u) (job u))
  side_cut M = cut_jobs arc job wide n (side w n τ M)
      (λ u v lu lv j f. subst T (sym (side_out w n τ M u)) (exits_intro w n τ M u v (wait u v j) (subst T (side_in w n τ M v) f)))

  pub side_terms : (M : ℕ → Bool) (cost : ℕ → ℕ) → ((u : ℕ) → u < n → job u ≤ cost u) → (u : ℕ) → u < n → gate (crosses (side w n τ M) u) (job u) ≤ gate (M u) (cost u)
  side_terms M cost few u l = gate_under (crosses (side w n τ M) u) (M u) (job u) (cost u) (side_cross w n τ M u l) (few u l)

  pub side_price : (M : ℕ → Bool) (cost : ℕ → ℕ) → ((u : ℕ) → u < n → job u ≤ cost u) → cut (2 * n) (side w n τ M) (net arc job wide) ≤ price n cost M
  unfolding price
  side_price M cost few =
      let m : sum n (λ u. gate (crosses (side w n τ M) u) (job u)) ≤ sum n (λ u. gate (M u) (cost u)) = sum_mono n _ _ (side_terms M cost few) in
      omega (arith, side_cut M, m)

  module _ (r : Room) (v : ℕ) (car : Carried (2 * n) (out τ) (inn τ) (net arc job wide) r v) (lτ : τ < n) (M : ℕ → Bool) (opens : Opens w n τ M) where
    pub side_carried : cut (2 * n) (side w n τ M) r + v ≡ cut (2 * n) (side w n τ M) (net arc job wide)
    side_carried = carried_cut (2 * n) (out τ) (inn τ) (net arc job wide) r v car (side w n τ M)
        (subst T (sym (side_in w n τ M τ)) (reach_self (avoid w M) n τ lτ))
        (λ t. let k = exits_elim w n τ M τ (subst T (side_out w n τ M τ) t) in opens_shut w n τ M opens lτ k.0 k.2 k.3)

    pub opens_price : (cost : ℕ → ℕ) → ((u : ℕ) → u < n → job u ≤ cost u) → v ≤ price n cost M
    opens_price cost few = omega (arith, side_carried, side_price M cost few)
