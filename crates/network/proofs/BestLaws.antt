-- The set that the verdict takes: after the last round it is read from the sink's side, its price is what flows into T, it exists and it is one
-- (document 01, "The verdict": "There is exactly one such set; this is to be proved.").
-- Assumes nothing.
--
--   others w n τ x ..        all jobs of X but T
--   others_open              they open every ring through T: "One always exists, since no job waits for itself."
--   carried_small            so no more than S is ever pushed
--   sink_set x n τ r u        the jobs that cross into the sink's side, computed; sink_exact: they are those exactly
--   crossing_best            after the last round the jobs that cross into the sink's side are the set that the verdict takes
--   best_crossing            and every set that the verdict may take is that one
--   best_price               its price is the flow into T
--   best_exists, best_unique one exists, and where costs are above 0 no other does
--   best_one                 "There is exactly one such set": the two as one theorem
use mathlib.Core.Path.{◌≡◌, sym, ◌∙◌, subst}
use mathlib.Core.Bool.{Bool, not}
use Prim.Native.Nat.{ℕ, suc, ◌*◌, ◌≤◌, ◌<◌}
use native.Mathlib.Decide.{ℕ_discrete}
use native.Mathlib.Omega.{arith}
use lib.Dec.{T, eqb, not_T, T_not}
use Rattle.sums.specs.Tests.{both}
use Rattle.sums.specs.Sum.{sum, gate, count}
use Rattle.sums.proofs.TestLaws.{both_intro, both_left, both_right, ne_test, test_ne}
use Rattle.sums.proofs.SumLaws.{sum_mono}
use Rattle.walks.proofs.ReachLaws.{reach, reach_reaches, reaches_reach}
use Rattle.graph.specs.Rings.{InX}
use Rattle.network.specs.Rooms.{Room, step}
use Rattle.network.specs.Rounds.{Rounds, Stuck}
use Rattle.network.specs.Arcs.{inn, out, flow_on, within, total, job_capacity, net, capacity}
use Rattle.network.specs.Sets.{Exactly, Opens, price, Best, LeftCount}
use Rattle.network.proofs.CutLaws.{Carried}
use Rattle.network.proofs.ArcLaws.{job_cost_lem, job_member, job_sink}
use Rattle.network.proofs.Tally.{capacity_counted}
use Rattle.network.proofs.FlowLaws.{Flowing, rounds_flowing, into_sink}
use Rattle.network.proofs.SetLaws.{count_mono, in_x, inx_exact, still, left_count_exists, x_self, x_next, within_wait}
use Rattle.network.proofs.Duality.{free, free_hit, free_reaches, shut_opens, opens_price}
use Rattle.network.proofs.SinkSide.{Crossing, crossing_price, crossing_opens, crossing_left, crossing_only}

-- ---- computed: the jobs that cross into the sink's side

unfoldable pub sink_set : (ℕ → Bool) → ℕ → ℕ → Room → ℕ → Bool
unfolding reach
sink_set x n τ r u = both (both (x u) (not (eqb u τ))) (both (not (reach (step r) (2 * n) (inn τ) (inn u))) (reach (step r) (2 * n) (inn τ) (out u)))

pub sink_exact : (x : ℕ → Bool) (n τ : ℕ) (r : Room) → Exactly n (Crossing r x n τ) (sink_set x n τ r)
unfolding sink_set
sink_exact x n τ r = record { sound = into; complete = back }
  where
    I : ℕ → Bool
    I u = reach (step r) (2 * n) (inn τ) (inn u)

    O : ℕ → Bool
    O u = reach (step r) (2 * n) (inn τ) (out u)

    into : (u : ℕ) → u < n → T (both (both (x u) (not (eqb u τ))) (both (not (I u)) (O u))) → Crossing r x n τ u
    into u l t =
        let a = both_left (both (x u) (not (eqb u τ))) (both (not (I u)) (O u)) t in
        let b = both_right (both (x u) (not (eqb u τ))) (both (not (I u)) (O u)) t in
        record {
          member = both_left (x u) (not (eqb u τ)) a;
          other = test_ne u τ (both_right (x u) (not (eqb u τ)) a);
          home = reach_reaches (step r) (2 * n) (inn τ) (out u) (both_right (not (I u)) (O u) b);
          barred = λ k. T_not (I u) (both_left (not (I u)) (O u) b) (reaches_reach (step r) (2 * n) (inn τ) (inn u) (omega arith) k);
        }

    back : (u : ℕ) → u < n → Crossing r x n τ u → T (both (both (x u) (not (eqb u τ))) (both (not (I u)) (O u)))
    back u l k =
        both_intro (both (x u) (not (eqb u τ))) (both (not (I u)) (O u)) (both_intro (x u) (not (eqb u τ)) k.member (ne_test u τ k.other))
        (both_intro (not (I u)) (O u) (not_T (I u) (λ t. k.barred (reach_reaches (step r) (2 * n) (inn τ) (inn u) t)))
        (reaches_reach (step r) (2 * n) (inn τ) (out u) (omega arith) k.home))

-- ---- after the last round

module _ (w : ℕ → ℕ → Bool) (n τ : ℕ) (x : ℕ → Bool) (exact : Exactly n (InX w n τ) x) (lτ : τ < n) (apart : (u : ℕ) → u < n → T (w u u) → ⊥) where
  abbrev pub others : ℕ → Bool
  others u = both (x u) (not (eqb u τ))

  pub others_open : Opens w n τ others
  others_open = shut_opens w n τ others
      (λ u l m. (exact.sound u l (both_left (x u) (not (eqb u τ)) m), test_ne u τ (both_right (x u) (not (eqb u τ)) m)))
      (λ y l s f. go y l s f (ℕ_discrete y τ))
    where
      go : (y : ℕ) → y < n → T (w τ y) → T (free w n τ others y) → Dec (y ≡ τ) → ⊥
      go y l s f (yes e) = apart τ lτ (subst (λ (z : ℕ). T (w τ z)) e s)
      go y l s f (no e) = e (free_hit w n τ others y f (both_intro (x y) (not (eqb y τ))
          (x_next w n τ x exact τ y lτ l (x_self w n τ x exact lτ) s (free_reaches w n τ others y f)) (ne_test y τ e)))

  module _ (cost : ℕ → ℕ) where
    -- the document's network, as the laws on networks have it
    abbrev c : Room
    c = net (within w x) (job_capacity x τ cost) (suc (total n x cost))

    pub carried_small : (r : Room) (v : ℕ) → Carried (2 * n) (out τ) (inn τ) c r v → v ≤ total n x cost
    unfolding total price job_capacity
    carried_small r v car =
        let a : v ≤ sum n (job_capacity x τ cost)
        = opens_price w n τ (within w x) (job_capacity x τ cost) (suc (total n x cost)) (within_wait w x) r v car lτ others others_open cost (λ u l. job_cost_lem x τ cost u) in
        let b : sum n (job_capacity x τ cost) ≤ sum n (λ u. gate (x u) (cost u)) = sum_mono n _ _ (λ u l. job_member x τ cost u) in
        omega (arith, a, b)

    module _ (k : ℕ) (r : Room) (made : Rounds (2 * n) (out τ) (inn τ) (capacity w x n τ cost) k r) (stuck : Stuck (2 * n) (out τ) (inn τ) r) where
      flowing : (v : ℕ) × Flowing n τ c r v
      unfolding capacity
      flowing = rounds_flowing n τ c k r lτ made

      small : flowing.0 < suc (total n x cost)
      small = omega (arith, carried_small r flowing.0 flowing.1.carried)

      module _ (C : ℕ → Bool) (crossing : Exactly n (Crossing r x n τ) C) where
        C_price : price n cost C ≡ flowing.0
        C_price = crossing_price w n τ x exact cost (suc (total n x cost)) r flowing.0 flowing.1.carried lτ stuck small C crossing

        C_opens : Opens w n τ C
        C_opens = crossing_opens w n τ x exact cost (suc (total n x cost)) r flowing.0 flowing.1.carried lτ stuck small C crossing

        C_cheapest : (L : ℕ → Bool) → Opens w n τ L → price n cost C ≤ price n cost L
        C_cheapest L o = omega (
          arith,
          C_price,
          opens_price w n τ (within w x) (job_capacity x τ cost) (suc (total n x cost)) (within_wait w x) r flowing.0 flowing.1.carried lτ L o cost (λ u l. job_cost_lem x τ cost u),
        )

        pub crossing_best : Best w n τ cost C
        crossing_best = record {
          opens = C_opens;
          cheapest = C_cheapest;
          fewest = λ L o e i j left-C left-L. omega (
            arith,
            left-C.number,
            left-L.number,
            count_mono n left-C.left left-L.left (λ u l t. left-L.exact.complete u l
                (crossing_left w n τ x exact cost (suc (total n x cost)) r flowing.0 flowing.1.carried lτ stuck small C crossing L o (omega (arith, e, C_price)) u l
                (left-C.exact.sound u l t))),
          );
        }

        pub best_crossing : ((u : ℕ) → u < n → 0 < cost u) → (L : ℕ → Bool) → Best w n τ cost L → (u : ℕ) → u < n → L u ≡ C u
        best_crossing positive L b =
            let i = count n (still w n τ C) in
            let j = count n (still w n τ L) in
            let left-C : LeftCount w n τ C i = left_count_exists w n τ C lτ in
            let left-L : LeftCount w n τ L j = left_count_exists w n τ L lτ in
            let few : j ≤ i = b.fewest C C_opens (omega (arith, b.cheapest C C_opens, C_cheapest L b.opens)) j i left-L left-C in
            crossing_only w n τ x exact cost (suc (total n x cost)) r flowing.0 flowing.1.carried lτ stuck small C crossing L b.opens
            (omega (arith, b.cheapest C C_opens, C_price)) i j left-C left-L few positive

      pub best_price : (M : ℕ → Bool) → Best w n τ cost M → price n cost M ≡ sum n (λ u. flow_on (within w x) r u τ)
      unfolding within
      best_price M b =
          let C = sink_set x n τ r in
          let e = C_price C (sink_exact x n τ r) in
          let k = C_cheapest C (sink_exact x n τ r) M b.opens in
          let j = b.cheapest C (C_opens C (sink_exact x n τ r)) in
          let f = into_sink (within w x) (job_capacity x τ cost) (suc (total n x cost)) n τ (λ u l t. apart u l (both_left (w u u) (both (x u) (x u)) t)) r flowing.0 flowing.1 lτ (job_sink x τ cost) in
          omega (arith, e, k, j, f)

-- ---- exactly one

module _ (w : ℕ → ℕ → Bool) (n τ : ℕ) (cost : ℕ → ℕ) (lτ : τ < n) (apart : (u : ℕ) → u < n → T (w u u) → ⊥) where
  pub best_exists : (M : ℕ → Bool) × Best w n τ cost M
  best_exists =
      let z = capacity_counted w (in_x w n τ) n τ cost lτ in
      let r = z.1.room in
      (sink_set (in_x w n τ) n τ r, crossing_best w n τ (in_x w n τ) (inx_exact w n τ lτ) lτ apart cost z.0 r z.1.made z.1.ended (sink_set (in_x w n τ) n τ r) (sink_exact (in_x w n τ) n τ r))

  pub best_unique : ((u : ℕ) → u < n → 0 < cost u) → (M L : ℕ → Bool) → Best w n τ cost M → Best w n τ cost L → (u : ℕ) → u < n → M u ≡ L u
  best_unique positive M L b d u l =
      let z = capacity_counted w (in_x w n τ) n τ cost lτ in
      let same = best_crossing w n τ (in_x w n τ) (inx_exact w n τ lτ) lτ apart cost z.0 z.1.room z.1.made z.1.ended
      (sink_set (in_x w n τ) n τ z.1.room) (sink_exact (in_x w n τ) n τ z.1.room) positive in
      same M b u l ∙ sym (same L d u l)

  -- THE THEOREM: "There is exactly one such set; this is to be proved."
  pub best_one : ((u : ℕ) → u < n → 0 < cost u) → (M : ℕ → Bool) × Best w n τ cost M × ((L : ℕ → Bool) → Best w n τ cost L → (u : ℕ) → u < n → L u ≡ M u)
  best_one positive = (best_exists.0, best_exists.1, λ L b. best_unique positive L best_exists.0 b best_exists.1)
