-- The document's network before the first round: what is accepted frames it, lists of zeros hold no flow, and the masks of the start show its arcs.
-- Assumes nothing.
--
--   arc_of, job_of, wide_of     the arcs, the jobs' capacities and the waits' capacity of the document's network
--   framed                   what is accepted frames it
--   held_start               lists of zeros hold the flow of the capacities
--   shown_start              the masks of the start show the capacities' steps
use mathlib.Core.Path.{◌≡◌, refl, sym, ap, ◌∙◌, subst}
use mathlib.Core.Logic.{◌⊎◌, inl, inr, ◌≢◌}
use mathlib.Core.Bool.{Bool, not}
use mathlib.Core.List.{List}
use Prim.Native.Nat.{ℕ, suc, ◌+◌, ◌*◌, ◌/◌, ◌%◌, ◌^◌, ◌<◌, ◌≤◌}
use native.Mathlib.Decide.{ℕ_discrete}
use native.Mathlib.Omega.{arith}
use lib.Arith.{digits_lt}
use lib.Dec.{T, eqb, lt→ltb, ltb→lt}
use lib.ListN.{length}
use Rattle.bits.specs.Mask.{bit, Has, has}
use Rattle.bits.proofs.Digits.{bit_pow_same}
use Rattle.bits.proofs.Masks.{has_test, test_has, has_and, and_has, has_pow_cases}
use Rattle.bits.proofs.Rest.{rest_end}
use Rattle.sums.specs.Tests.{both}
use Rattle.sums.specs.Sum.{sum, gate}
use Rattle.sums.proofs.TestLaws.{both_intro, both_left, both_right, tested, T_eq, test_ne, ne_test}
use Rattle.sums.proofs.SumLaws.{gate_on, gate_off, gate_le, sum_mono, sum_term}
use Rattle.graph.specs.Waits.{waits}
use Rattle.network.specs.Rooms.{Room, step}
use Rattle.network.specs.Arcs.{inn, out, within, total, job_capacity, net}
use Rattle.network.proofs.PushLaws.{room_at}
use Rattle.network.proofs.ArcLaws.{net_job, net_in, net_wait, net_out, net_unused}
use Rattle.search.specs.Masks.{at, masked}
use Rattle.search.proofs.MaskSteps.{step_parts, step_made}
use Rattle.network.specs.Costs.{cost_at}
use Rattle.flow.specs.Accepted.{Accepted}
use Rattle.flow.specs.Inside.{start_mask, Begun}
use Rattle.flow.proofs.HeldLaws.{Framed, Held}
use Rattle.flow.proofs.ShownLaws.{Shown}
use Rattle.flow.proofs.StartLaws.{start_outside, start_out, start_own, start_sink}

abbrev pub arc_of : List ℕ → ℕ → ℕ → ℕ → Bool
arc_of rows x = within (waits rows) (has x)

abbrev pub job_of : List ℕ → ℕ → ℕ → ℕ → ℕ
job_of costs τ x = job_capacity (has x) τ (cost_at costs)

abbrev pub wide_of : List ℕ → ℕ → ℕ
wide_of costs x = suc (total (length costs) (has x) (cost_at costs))

abbrev pub net_of : List ℕ → List ℕ → ℕ → ℕ → Room
net_of rows costs τ x = net (arc_of rows x) (job_of costs τ x) (wide_of costs x)

module _ (rows costs : List ℕ) (τ x : ℕ) (F : List ℕ) (A : Accepted rows costs τ x F) where
  pub accepted_few : length costs ≤ 64
  accepted_few = omega (arith, A.priced, A.jobs.few)

  pub accepted_members : (u : ℕ) → Has x u → u < length costs
  accepted_members u h = omega (arith, A.priced, A.members u h)

  pub accepted_job : τ < length costs
  accepted_job = omega (arith, A.priced, A.job)

  arc_parts : (u v : ℕ) → T (arc_of rows x u v) → T (waits rows u v) × Has x u × Has x v
  unfolding within
  arc_parts u v t =
      let q = both_right (waits rows u v) (both (has x u) (has x v)) t in
      (both_left (waits rows u v) (both (has x u) (has x v)) t, test_has x u (both_left (has x u) (has x v) q), test_has x v (both_right (has x u) (has x v) q))

  arc_made : (u v : ℕ) → T (waits rows u v) → Has x u → Has x v → T (arc_of rows x u v)
  unfolding within
  arc_made u v w h g = both_intro (waits rows u v) (both (has x u) (has x v)) w (both_intro (has x u) (has x v) (has_test x u h) (has_test x v g))

  pub arc_apart : (u : ℕ) → u < length costs → T (arc_of rows x u u) → ⊥
  arc_apart u l t = A.apart u (arc_parts u u t).0

  -- a job with an arc is of X, and is not T
  job_parts : (u : ℕ) → 0 < job_of costs τ x u → Has x u × (u ≢ τ) × (job_of costs τ x u ≡ cost_at costs u)
  unfolding job_capacity
  job_parts u l = go (tested (both (has x u) (not (eqb u τ))))
    where
      go : T (both (has x u) (not (eqb u τ))) ⊎ (T (both (has x u) (not (eqb u τ))) → ⊥) → Has x u × (u ≢ τ) × (gate (both (has x u) (not (eqb u τ))) (cost_at costs u) ≡ cost_at costs u)
      go (inl t) = (
        test_has x u (both_left (has x u) (not (eqb u τ)) t),
        test_ne u τ (both_right (has x u) (not (eqb u τ)) t),
        gate_on (both (has x u) (not (eqb u τ))) (cost_at costs u) t,
      )
      go (inr t) = absurd (omega (arith, l, gate_off (both (has x u) (not (eqb u τ))) (cost_at costs u) t))

  job_made : (u : ℕ) → Has x u → u ≢ τ → 0 < job_of costs τ x u
  unfolding job_capacity
  job_made u h ne = omega (
    arith,
    gate_on (both (has x u) (not (eqb u τ))) (cost_at costs u) (both_intro (has x u) (not (eqb u τ)) (has_test x u h) (ne_test u τ ne)),
    A.positive u (A.members u h),
  )

  pub total_small : suc (total (length costs) (has x) (cost_at costs)) ≤ 2 ^ 63
  unfolding total
  total_small = omega (
    arith,
    A.bounded,
    sum_mono (length costs) (λ u. gate (has x u) (cost_at costs u)) (λ u. cost_at costs u) (λ u l. gate_le (has x u) (cost_at costs u)),
    ap (λ (z : ℕ). sum z (λ u. cost_at costs u)) A.priced,
  )

  pub framed : Framed (arc_of rows x) (job_of costs τ x) (wide_of costs x) costs
  unfolding cost_at
  framed = record {
    few = accepted_few;
    apart = arc_apart;
    priced = λ u l pos. (job_parts u pos).2;
    small = λ u l. omega (arith, A.bounded, sum_term (length rows) (cost_at costs) u (omega (arith, A.priced)));
    bound = omega (arith, total_small);
  }

  -- ---- no flow

  pub held_start : (G : List ℕ) → length G ≡ 64 → ((u : ℕ) → at G u ≡ 0)
      → Held (arc_of rows x) (job_of costs τ x) (wide_of costs x) (length costs) (net_of rows costs τ x) F G
  held_start G lg zero = record {
    size = omega (arith, ap (λ (z : ℕ). z * z) A.priced, A.size);
    thru = lg;
    pair = λ a b la lb. refl;
    wait = λ u v lu lv. empty u v lu lv ∙ sym (net_unused (arc_of rows x) (job_of costs τ x) (wide_of costs x) u v (arc_apart u lu));
    through = λ u l. zero u ∙ sym (net_wait (arc_of rows x) (job_of costs τ x) (wide_of costs x) u u ∙ gate_off (arc_of rows x u u) (wide_of costs x) (arc_apart u l));
  }
    where
      empty : (u v : ℕ) → u < length costs → v < length costs → at F (u * length costs + v) ≡ 0
      empty u v lu lv = A.blank (u * length costs + v) (omega (arith, digits_lt lu lv, ap (λ (z : ℕ). z * z) A.priced))

  -- ---- the masks

  module _ (S : List ℕ) (B : Begun rows τ x S) where
    -- what a mask of the start holds
    held_by : (a v : ℕ) → a < 128 → Has (at S a) v → Has x (a / 2) × (((a % 2 ≡ 1) × T (waits rows (a / 2) v) × Has x v) ⊎ ((a % 2 ≢ 1) × (a / 2 ≢ τ) × (v ≡ a / 2)))
    unfolding waits
    held_by a v la h = go (ℕ_discrete (bit x (a / 2)) 1) (ℕ_discrete (a % 2) 1) (ℕ_discrete (a / 2) τ)
      where
        m : Has (start_mask rows τ x a) v
        m = subst (λ (z : ℕ). Has z v) (B.masks a la) h

        go : Dec (bit x (a / 2) ≡ 1) → Dec (a % 2 ≡ 1) → Dec (a / 2 ≡ τ)
            → Has x (a / 2) × (((a % 2 ≡ 1) × T (has (at rows (a / 2)) v) × Has x v) ⊎ ((a % 2 ≢ 1) × (a / 2 ≢ τ) × (v ≡ a / 2)))
        go (no k) o e = absurd (rest_end (start_mask rows τ x a) v (start_outside rows τ x a k) m)
        go (yes k) (yes o) e = let p = has_and (at rows (a / 2)) x v (subst (λ (z : ℕ). Has z v) (start_out rows τ x a k o) m) in (k, inl (o, has_test (at rows (a / 2)) v p.0, p.1))
        go (yes k) (no o) (yes e) = absurd (rest_end (start_mask rows τ x a) v (start_sink rows τ x a k o e) m)
        go (yes k) (no o) (no e) = (k, inr (o, e, has_pow_cases (a / 2) v (subst (λ (z : ℕ). Has z v) (start_own rows τ x a k o e) m)))

    holds_wait : (u v : ℕ) → u < 64 → T (waits rows u v) → Has x u → Has x v → Has (at S (out u)) v
    unfolding waits
    holds_wait u v l w h g =
        let e : out u / 2 ≡ u = omega arith in
        let k : Has x (out u / 2) = subst (Has x) (sym e) h in
        subst (λ (z : ℕ). Has z v) (sym (B.masks (out u) (omega arith) ∙ start_out rows τ x (out u) k (omega arith)))
        (and_has (at rows (out u / 2)) x v (subst (λ (z : ℕ). Has (at rows z) v) (sym e) (test_has (at rows u) v w)) g)

    holds_own : (u : ℕ) → u < 64 → Has x u → u ≢ τ → Has (at S (inn u)) u
    holds_own u l h ne =
        let e : inn u / 2 ≡ u = omega arith in
        let k : Has x (inn u / 2) = subst (Has x) (sym e) h in
        subst (λ (z : ℕ). Has z u) (sym (B.masks (inn u) (omega arith) ∙ start_own rows τ x (inn u) k (λ o. omega arith) (λ q. ne (sym e ∙ q)) ∙ ap (λ (z : ℕ). 2 ^ z) e)) (bit_pow_same u)

    -- a step by the masks has capacity
    to : (a b : ℕ) → a < 128 → T (step (masked S) a b) → T (step (net_of rows costs τ x) a b)
    to a b la t = go (held_by a (b / 2) la (step_parts S a b t).1).1
      where
        o : (a + b) % 2 ≡ 1
        o = (step_parts S a b t).0

        k : Has x (a / 2)
        k = (held_by a (b / 2) la (step_parts S a b t).1).0

        go : ((a % 2 ≡ 1) × T (waits rows (a / 2) (b / 2)) × Has x (b / 2)) ⊎ ((a % 2 ≢ 1) × (a / 2 ≢ τ) × (b / 2 ≡ a / 2)) → T (step (net_of rows costs τ x) a b)
        go (inl p) =
            let s = p.0 in
            lt→ltb 0 (net_of rows costs τ x a b) (omega (
              arith,
              room_at (net_of rows costs τ x) a b (out (a / 2)) (inn (b / 2)) (omega arith) (omega (arith, o)),
              net_wait (arc_of rows x) (job_of costs τ x) (wide_of costs x) (a / 2) (b / 2),
              gate_on (arc_of rows x (a / 2) (b / 2)) (wide_of costs x) (arc_made (a / 2) (b / 2) p.1 k p.2),
            ))
        go (inr p) =
            let s = p.0 in
            let e = p.2 in
            lt→ltb 0 (net_of rows costs τ x a b) (omega (
              arith,
              room_at (net_of rows costs τ x) a b (inn (a / 2)) (out (a / 2)) (omega arith) (omega (arith, o)),
              net_job (arc_of rows x) (job_of costs τ x) (wide_of costs x) (a / 2),
              job_made (a / 2) k p.1,
            ))

    -- and a step with capacity is one by the masks
    from : (a b : ℕ) → a < 2 * length costs → b < 2 * length costs → T (step (net_of rows costs τ x) a b) → T (step (masked S) a b)
    from a b la lb t = go (ℕ_discrete (a % 2) 1) (ℕ_discrete (b % 2) 1)
      where
        l : 0 < net_of rows costs τ x a b
        l = ltb→lt 0 (net_of rows costs τ x a b) t

        few : length costs ≤ 64
        few = accepted_few

        here : (i j : ℕ) → a ≡ i → b ≡ j → net_of rows costs τ x a b ≡ net_of rows costs τ x i j
        here i j e f = room_at (net_of rows costs τ x) a b i j e f

        step_at : (i j : ℕ) → a ≡ i → b ≡ j → T (step (masked S) i j) → T (step (masked S) a b)
        step_at i j e f s = rw (e, f) s

        wait : T (arc_of rows x (a / 2) (b / 2)) ⊎ (T (arc_of rows x (a / 2) (b / 2)) → ⊥) → a % 2 ≡ 1 → b % 2 ≢ 1 → T (step (masked S) a b)
        wait (inr f) p q = absurd (omega (
          arith,
          l,
          here (out (a / 2)) (inn (b / 2)) (omega arith) (omega arith),
          net_wait (arc_of rows x) (job_of costs τ x) (wide_of costs x) (a / 2) (b / 2),
          gate_off (arc_of rows x (a / 2) (b / 2)) (wide_of costs x) f,
        ))
        wait (inl f) p q =
            let k = arc_parts (a / 2) (b / 2) f in
            let e : inn (b / 2) / 2 ≡ b / 2 = omega arith in
            step_at (out (a / 2)) (inn (b / 2)) (omega arith) (omega arith) (step_made S (out (a / 2)) (inn (b / 2)) (omega arith)
            (subst (λ (z : ℕ). Has (at S (out (a / 2))) z) (sym e) (holds_wait (a / 2) (b / 2) (omega (arith, few)) k.0 k.1 k.2)))

        own : Dec (b / 2 ≡ a / 2) → a % 2 ≢ 1 → b % 2 ≡ 1 → T (step (masked S) a b)
        own (no f) p q = absurd (omega (
          arith,
          l,
          here (inn (a / 2)) (out (b / 2)) (omega arith) (omega arith),
          net_in (arc_of rows x) (job_of costs τ x) (wide_of costs x) (a / 2) (out (b / 2)) (λ e. f (omega arith)),
        ))
        own (yes f) p q =
            let k = job_parts (a / 2) (omega (arith, l, here (inn (a / 2)) (out (a / 2)) (omega arith) (omega arith), net_job (arc_of rows x) (job_of costs τ x) (wide_of costs x) (a / 2))) in
            let e : out (a / 2) / 2 ≡ a / 2 = omega arith in
            step_at (inn (a / 2)) (out (a / 2)) (omega arith) (omega arith) (step_made S (inn (a / 2)) (out (a / 2)) (omega arith)
            (subst (λ (z : ℕ). Has (at S (inn (a / 2))) z) (sym e) (holds_own (a / 2) (omega (arith, few)) k.0 k.1)))

        go : Dec (a % 2 ≡ 1) → Dec (b % 2 ≡ 1) → T (step (masked S) a b)
        go (yes p) (yes q) = absurd (omega (arith, l, here (out (a / 2)) (out (b / 2)) (omega arith) (omega arith), net_out (arc_of rows x) (job_of costs τ x) (wide_of costs x) (a / 2) (b / 2)))
        go (no p) (no q) = absurd (omega (
          arith,
          l,
          here (inn (a / 2)) (inn (b / 2)) (omega arith) (omega arith),
          net_in (arc_of rows x) (job_of costs τ x) (wide_of costs x) (a / 2) (inn (b / 2)) (λ e. omega arith),
        ))
        go (yes p) (no q) = wait (tested (arc_of rows x (a / 2) (b / 2))) p q
        go (no p) (yes q) = own (ℕ_discrete (b / 2) (a / 2)) p q

    pub shown_start : Shown (net_of rows costs τ x) (length costs) x S
    shown_start = record {
      size = B.size;
      right = λ a b la lb. T_eq (step (masked S) a b) (step (net_of rows costs τ x) a b) (to a b (let f = accepted_few in omega arith)) (from a b la lb);
      only = λ a b la lb t. let k = held_by a (b / 2) la (step_parts S a b t).1 in (k.0, other a b k.0 k.1);
    }
      where
        other : (a b : ℕ) → Has x (a / 2) → ((a % 2 ≡ 1) × T (waits rows (a / 2) (b / 2)) × Has x (b / 2)) ⊎ ((a % 2 ≢ 1) × (a / 2 ≢ τ) × (b / 2 ≡ a / 2)) → Has x (b / 2)
        other a b h (inl p) = p.2
        other a b h (inr p) = subst (Has x) (sym p.2) h
