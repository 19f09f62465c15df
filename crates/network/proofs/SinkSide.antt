-- Where no path is left, the jobs whose arcs lead into the sink's side open every ring through T at the price of what was pushed: strong duality.
-- Every other set of that price leaves what they leave, and one that leaves no more is the same set. (Document 01 lists "Reading the cut from T's waiting side
-- (the source)" among the slips; the tie is why.)
-- Over any costs and any capacity of waits that is above what was pushed.
-- Assumes nothing.
--
--   Crossing r x n τ u    a job of X other than T from whose out-node the sink is reached and from whose in-node it is not
--   crossing_price        together they cost what was pushed
--   crossing_opens        they open every ring through T
--   crossing_left         what they leave, every set that opens and costs no more leaves
--   crossing_only         and where it leaves no more jobs, it is the same set
use mathlib.Core.Path.{◌≡◌, refl, sym, ap, ◌∙◌, subst}
use mathlib.Core.Logic.{◌⊎◌, inl, inr, ◌≢◌}
use mathlib.Core.Bool.{Bool, true, false, not}
use mathlib.Core.List.{List, [], ◌∷◌}
use Prim.Native.Nat.{ℕ, ◌+◌, ◌*◌, ◌≤◌, ◌<◌}
use native.Mathlib.Decide.{ℕ_discrete, dec_lt}
use native.Mathlib.Omega.{arith}
use lib.Dec.{T, eqb, lt→ltb, not_T, T_not}
use Rattle.sums.specs.Tests.{both}
use Rattle.sums.specs.Sum.{sum, gate}
use Rattle.sums.proofs.TestLaws.{both_intro, both_left, both_right, tested, T_eq, ne_test, test_ne}
use Rattle.sums.proofs.SumLaws.{gate_off, gate_le, sum_cong, sum_tight}
use Rattle.sums.proofs.DoubleSums.{dsum_zero}
use Rattle.walks.specs.Walk.{Walk, Reaches}
use Rattle.walks.proofs.ReachLaws.{reach, reach_walk, walk_reach, reach_self, reach_step, reach_in, reach_reaches, reaches_reach}
use Rattle.graph.specs.Rings.{InX}
use Rattle.network.specs.Rooms.{Room, step}
use Rattle.network.specs.Rounds.{Stuck}
use Rattle.network.specs.Arcs.{inn, out, within, job_capacity, net}
use Rattle.network.specs.Sets.{Exactly, Opens, price, avoid, Left, LeftCount}
use Rattle.network.proofs.CutLaws.{cut, Carried, carried_cut, cut_shut}
use Rattle.network.proofs.ArcLaws.{crosses, cut_jobs, cut_wait, job_cost_lem}
use Rattle.network.proofs.SetLaws.{count_tight, x_self, x_next, within_intro, within_wait}
use Rattle.network.proofs.Duality.{free, free_hit, free_reaches, shut_opens, side, side_in, side_out, exits_elim, side_cross, side_cut, side_terms, side_carried, side_price}

pub record Crossing (r : Room) (x : ℕ → Bool) (n τ u : ℕ) : Type 0 where
  pub member : T (x u)
  pub other : u ≢ τ
  pub home : Reaches (step r) (2 * n) (out u) (inn τ)
  pub barred : Reaches (step r) (2 * n) (inn u) (inn τ) → ⊥

gate_nest : (a b : Bool) (y : ℕ) → gate (both a b) y ≡ gate a (gate b y)
gate_nest true b y = refl
gate_nest false b y = refl

gate_full : (a m : Bool) (y z : ℕ) → 0 < z → gate a y ≡ gate m z → T m → T a
gate_full true m y z p q t = tt
gate_full false true y z p q t = absurd (omega arith)
gate_full false false y z p q t = t

module _ (w : ℕ → ℕ → Bool) (n τ : ℕ) (x : ℕ → Bool) (exact : Exactly n (InX w n τ) x) (cost : ℕ → ℕ) (wide : ℕ) (r : Room) (v : ℕ)
    (car : Carried (2 * n) (out τ) (inn τ) (net (within w x) (job_capacity x τ cost) wide) r v)
    (lτ : τ < n) (stuck : Stuck (2 * n) (out τ) (inn τ) r) (small : v < wide) where
  -- the nodes from which the sink is reached
  abbrev R : ℕ → Bool
  R a = reach (step r) (2 * n) (inn τ) a

  R_sink : T (R (inn τ))
  R_sink = reach_self (step r) (2 * n) (inn τ) (omega arith)

  R_source : T (R (out τ)) → ⊥
  R_source t = let k = reach_walk (step r) (2 * n) (inn τ) (out τ) t in stuck k.0 k.1

  no_room : cut (2 * n) R r ≡ 0
  unfolding cut
  no_room = dsum_zero (2 * n) (λ a b. gate (both (not (R a)) (R b)) (r a b)) (λ a b la lb. go a b la (dec_lt 0 (r a b)))
    where
      go : (a b : ℕ) → a < 2 * n → Dec (0 < r a b) → gate (both (not (R a)) (R b)) (r a b) ≡ 0
      go a b la (no h) = omega (arith, gate_le (both (not (R a)) (R b)) (r a b))
      go a b la (yes h) = gate_off (both (not (R a)) (R b)) (r a b) (λ t.
          T_not (R a) (both_left (not (R a)) (R b) t) (reach_step (step r) (2 * n) (inn τ) a b la (lt→ltb 0 (r a b) h) (both_right (not (R a)) (R b) t)))

  -- what was pushed is the capacity of the cut
  cut_value : v ≡ cut (2 * n) R (net (within w x) (job_capacity x τ cost) wide)
  cut_value = omega (arith, carried_cut (2 * n) (out τ) (inn τ) (net (within w x) (job_capacity x τ cost) wide) r v car R R_sink R_source, no_room)

  -- no wait leads into R: it holds more than was pushed
  closed : (u y : ℕ) → u < n → y < n → T (within w x u y) → T (R (inn y)) → T (R (out u))
  closed u y lu ly j h = go (tested (R (out u)))
    where
      go : T (R (out u)) ⊎ (T (R (out u)) → ⊥) → T (R (out u))
      go (inl t) = t
      go (inr t) = absurd (omega (arith, cut_wait (within w x) (job_capacity x τ cost) wide n R u y lu ly j h t, cut_value, small))

  module _ (C : ℕ → Bool) (crossing : Exactly n (Crossing r x n τ) C) where
    c_intro : (u : ℕ) → u < n → T (x u) → u ≢ τ → (T (R (inn u)) → ⊥) → T (R (out u)) → T (C u)
    c_intro u l m h a b = crossing.complete u l (record {
      member = m;
      other = h;
      home = reach_reaches (step r) (2 * n) (inn τ) (out u) b;
      barred = λ k. a (reaches_reach (step r) (2 * n) (inn τ) (inn u) (omega arith) k);
    })

    c_elim : (u : ℕ) → u < n → T (C u) → T (x u) × (u ≢ τ) × (T (R (inn u)) → ⊥) × T (R (out u))
    c_elim u l t =
        let k = crossing.sound u l t in
        (k.member, k.other, (λ h. k.barred (reach_reaches (step r) (2 * n) (inn τ) (inn u) h)), reaches_reach (step r) (2 * n) (inn τ) (out u) (omega arith) k.home)

    pub crossing_price : price n cost C ≡ v
    unfolding price job_capacity
    crossing_price =
        sum_cong n (λ u. gate (C u) (cost u)) (λ u. gate (crosses R u) (job_capacity x τ cost u)) each
        ∙ sym (cut_jobs (within w x) (job_capacity x τ cost) wide n R closed) ∙ sym cut_value
      where
        as_test : (u : ℕ) → u < n → C u ≡ both (crosses R u) (both (x u) (not (eqb u τ)))
        as_test u l = T_eq (C u) (both (crosses R u) (both (x u) (not (eqb u τ))))
            (λ t. let e = c_elim u l t in both_intro (crosses R u) (both (x u) (not (eqb u τ))) (both_intro (not (R (inn u))) (R (out u)) (not_T (R (inn u)) e.2) e.3)
            (both_intro (x u) (not (eqb u τ)) e.0 (ne_test u τ e.1)))
            (λ t. let a = both_left (crosses R u) (both (x u) (not (eqb u τ))) t in let b = both_right (crosses R u) (both (x u) (not (eqb u τ))) t in
            c_intro u l (both_left (x u) (not (eqb u τ)) b) (test_ne u τ (both_right (x u) (not (eqb u τ)) b))
            (λ h. T_not (R (inn u)) (both_left (not (R (inn u))) (R (out u)) a) h) (both_right (not (R (inn u))) (R (out u)) a))

        each : (u : ℕ) → u < n → gate (C u) (cost u) ≡ gate (crosses R u) (gate (both (x u) (not (eqb u τ))) (cost u))
        each u l = ap (λ (b : Bool). gate b (cost u)) (as_test u l) ∙ gate_nest (crosses R u) (both (x u) (not (eqb u τ))) (cost u)

    -- a job of X from which T is reached outside the set has its in-node in R
    inner : (u : ℕ) (p : List ℕ) → u < n → T (x u) → Walk (avoid w C) n u τ p → T (R (inn u))
    inner u [] l m k = subst (λ (z : ℕ). T (R (inn z))) (sym k) R_sink
    inner u (y ∷ p) l m k = go (ℕ_discrete u τ) (tested (R (inn u)))
        (λ xy. inner y p k.0 xy k.2)
      where
        wuy : T (w u y)
        wuy = both_right (not (C u)) (w u y) k.1

        go : Dec (u ≡ τ) → T (R (inn u)) ⊎ (T (R (inn u)) → ⊥) → (T (x y) → T (R (inn y))) → T (R (inn u))
        go (yes e) t rec = subst (λ (z : ℕ). T (R (inn z))) (sym e) R_sink
        go (no e) (inl t) rec = t
        go (no e) (inr t) rec =
            let fy : T (free w n τ C y) = walk_reach (avoid w C) n τ y p k.0 k.2 in
            let xy = x_next w n τ x exact u y l k.0 m wuy (free_reaches w n τ C y fy) in
            let o = closed u y l k.0 (within_intro w x u y wuy m xy) (rec xy) in
            absurd (T_not (C u) (both_left (not (C u)) (w u y) k.1) (c_intro u l m e t o))

    inner_free : (u : ℕ) → T (x u) → T (free w n τ C u) → T (R (inn u))
    inner_free u m f = let k = reach_walk (avoid w C) n τ u f in inner u k.0 (reach_in (avoid w C) n τ u f) m k.1

    pub crossing_opens : Opens w n τ C
    crossing_opens = shut_opens w n τ C
        (λ u l t. let e = c_elim u l t in (exact.sound u l e.0, e.1))
        (λ y l s f.
        let m = x_self w n τ x exact lτ in
        let k = x_next w n τ x exact τ y lτ l m s (free_reaches w n τ C y f) in
        R_source (closed τ y lτ l (within_intro w x τ y s m k) (inner_free y k f)))

    -- ---- against another set that opens and costs no more than was pushed

    module _ (L : ℕ → Bool) (opens : Opens w n τ L) (cheap : price n cost L ≤ v) where
      S : ℕ → Bool
      S = side w n τ L

      tight : cut (2 * n) (side w n τ L) r + v ≡ cut (2 * n) (side w n τ L) (net (within w x) (job_capacity x τ cost) wide)
      tight = side_carried w n τ (within w x) (job_capacity x τ cost) wide (within_wait w x) r v car lτ L opens

      R_in_S : (a : ℕ) → T (R a) → T (S a)
      unfolding S
      R_in_S a h =
          let k = reach_walk (step r) (2 * n) (inn τ) a h in
          cut_shut (2 * n) (side w n τ L) r
          (omega (arith, tight, side_price w n τ (within w x) (job_capacity x τ cost) wide (within_wait w x) L cost (λ u l. job_cost_lem x τ cost u), cheap))
          a (inn τ) k.0 (reach_in (step r) (2 * n) (inn τ) a h) (subst T (sym (side_in w n τ L τ)) (reach_self (avoid w L) n τ lτ)) k.1

      pub crossing_left : (u : ℕ) → u < n → Left w n τ C u → Left w n τ L u
      unfolding S
      crossing_left u l k =
          let m = exact.complete u l k.member in
          let f : T (free w n τ L u) = subst T (side_in w n τ L u) (R_in_S (inn u) (inner_free u m (reaches_reach (avoid w C) n τ u l k.home))) in
          record {
            member = k.member;
            outside = λ t. k.other (free_hit w n τ L u f t);
            other = k.other;
            home = reach_reaches (avoid w L) n τ u f;
          }

      -- ---- and leaves no more jobs

      module _ (i j : ℕ) (left-C : LeftCount w n τ C i) (left-L : LeftCount w n τ L j) (few : j ≤ i) (positive : (u : ℕ) → u < n → 0 < cost u) where
        left_back : (u : ℕ) → u < n → Left w n τ L u → Left w n τ C u
        left_back u l k = left-C.exact.sound u l (count_tight n left-C.left left-L.left
            (λ z m t. left-L.exact.complete z m (crossing_left z m (left-C.exact.sound z m t)))
            (omega (arith, left-C.number, left-L.number)) u l (left-L.exact.complete u l k))

        -- a job of X from which T is reached outside L has its in-node in R
        free_R : (u : ℕ) → u < n → T (x u) → T (free w n τ L u) → T (R (inn u))
        free_R u l m f = go (ℕ_discrete u τ)
          where
            go : Dec (u ≡ τ) → T (R (inn u))
            go (yes e) = subst (λ (z : ℕ). T (R (inn z))) (sym e) R_sink
            go (no e) =
                let k = left_back u l (record { member = exact.sound u l m; outside = λ t. e (free_hit w n τ L u f t); other = e; home = reach_reaches (avoid w L) n τ u f }) in
                inner_free u m (reaches_reach (avoid w C) n τ u l k.home)

        to_L : (u : ℕ) → u < n → T (C u) → T (L u)
        unfolding S
        to_L u l t = go (tested (free w n τ L u))
          where
            e : T (x u) × (u ≢ τ) × (T (R (inn u)) → ⊥) × T (R (out u))
            e = c_elim u l t

            go : T (free w n τ L u) ⊎ (T (free w n τ L u) → ⊥) → T (L u)
            go (inl f) = absurd (e.2 (free_R u l e.0 f))
            go (inr f) = side_cross w n τ L u l (both_intro (not (side w n τ L (inn u))) (side w n τ L (out u))
                (not_T (side w n τ L (inn u)) (λ h. f (subst T (side_in w n τ L u) h))) (R_in_S (out u) e.3))

        -- each job of L has its arc across: otherwise L would cost more than was pushed
        across : (u : ℕ) → u < n → T (L u) → T (crosses (side w n τ L) u)
        unfolding price
        across u l m =
            let dear : sum n (λ z. gate (L z) (cost z)) ≤ sum n (λ z. gate (crosses (side w n τ L) z) (job_capacity x τ cost z))
            = omega (arith, tight, side_cut w n τ (within w x) (job_capacity x τ cost) wide (within_wait w x) L, cheap) in
            gate_full (crosses (side w n τ L) u) (L u) (job_capacity x τ cost u) (cost u) (positive u l)
            (sum_tight n (λ z. gate (crosses (side w n τ L) z) (job_capacity x τ cost z)) (λ z. gate (L z) (cost z))
            (side_terms w n τ (within w x) (job_capacity x τ cost) wide (within_wait w x) L cost (λ z k. job_cost_lem x τ cost z)) dear u l) m

        from_L : (u : ℕ) → u < n → T (L u) → T (C u)
        unfolding S
        from_L u l t =
            let a = across u l t in
            let i = opens.inside u l t in
            let m = exact.complete u l i.0 in
            let k = exits_elim w n τ L u (subst T (side_out w n τ L u) (both_right (not (side w n τ L (inn u))) (side w n τ L (out u)) a)) in
            let xy = x_next w n τ x exact u k.0 l k.1 m k.2 (free_reaches w n τ L k.0 k.3) in
            c_intro u l m i.1
            (λ h. T_not (side w n τ L (inn u)) (both_left (not (side w n τ L (inn u))) (side w n τ L (out u)) a) (R_in_S (inn u) h))
            (closed u k.0 l k.1 (within_intro w x u k.0 k.2 m xy) (free_R k.0 k.1 xy k.3))

        pub crossing_only : (u : ℕ) → u < n → L u ≡ C u
        crossing_only u l = T_eq (L u) (C u) (from_L u l) (to_L u l)
